-- The kind that a word's label names (001, Annex A, Appendix 5, Table A5-1).
use Rattle.std.specs.Prelude.{Bool, true, false, List, [], ◌∷◌, ℕ, ◌%◌, ◌^◌, eqb, Result, Option, Some, None}
use Rattle.bits.specs.Tests.{pick}
use Rattle.refusal.specs.Refusals.{unknown_label}
use Rattle.refusal.specs.Checks.{Check, check, first_refusal, answered}
use Rattle.refusal.specs.declared.Refusal.{Refusal}
use Rattle.kind.specs.Layouts.{all_kinds, label_of}
use Rattle.kind.specs.declared.Kind.{Kind}
use Rattle.kind.specs.declared.Kind.TheVariants.{Blank}

abbrev pub kind_from : List Kind → ℕ → Option Kind
kind_from [] n = None
kind_from (k ∷ ks) n = pick (eqb n (label_of k)) (Some k) (kind_from ks n)

-- bits 1 to 6 of a word
abbrev pub labelled_of : ℕ → Option Kind
labelled_of word = kind_from all_kinds (word % 2 ^ 6)

abbrev pub is_known : Option Kind → Bool
is_known (Some k) = true
is_known None = false

-- a kind in any case, so that the checks after the label's can be said: Blank where the label is unknown
abbrev pub kind_named : Option Kind → Kind
kind_named (Some k) = k
kind_named None = Blank

-- ---- the kind of a label alone: 6, place 0 (docs/DECISIONS.md, 'The public list and the listing')

abbrev pub name_checks : ℕ → List Check
name_checks label = check (is_known (kind_from all_kinds label)) unknown_label ∷ []

unfoldable pub name_refusal : ℕ → Refusal
name_refusal label = first_refusal (name_checks label)

-- what `kind_named` answers
unfoldable pub named_of : ℕ → Result Kind Refusal
named_of label = answered (name_refusal label) (kind_named (kind_from all_kinds label))
