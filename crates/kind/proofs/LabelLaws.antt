-- A label and its kind: no two kinds have one label, and which kind a label names, exactly. Assumes nothing.
use mathlib.Core.Path.{◌≡◌, refl, sym, ap, ◌∙◌}
use mathlib.Core.Bool.{Bool, true, false}
use mathlib.Core.List.{List, [], ◌∷◌}
use mathlib.Core.Logic.{◌↔◌}
use Prim.Native.Nat.{ℕ}
use borrow.Author.Tests.{eqb-true}
use lib.Dec.{eqb}
use Rattle.std.specs.Option.{ok_or}
use Rattle.std.specs.Prelude.{Result, Ok, Err, Option, Some, None}
use Rattle.bits.specs.Tests.{pick}
use Rattle.refusal.specs.Refusals.{numbered, unknown_label}
use Rattle.refusal.specs.Checks.{check, first_refusal, answered}
use Rattle.refusal.specs.declared.Refusal.{Refusal}
use Rattle.kind.specs.Layouts.{all_kinds, label_of}
use Rattle.kind.specs.Labels.{kind_from, is_known, kind_named, name_refusal, named_of}
use Rattle.kind.specs.declared.Kind.{Kind}
use Rattle.bits.proofs.TestLaws.{zero_one}
use Rattle.kind.proofs.TableLaws.{each}

-- no two kinds have one label
pub labelled : (k : Kind) → kind_from all_kinds (label_of k) ≡ Some k
labelled = each (λ (k : Kind). kind_from all_kinds (label_of k)) Some refl

pub label_from : (ks : List Kind) (n : ℕ) (k : Kind) → kind_from ks n ≡ Some k → n ≡ label_of k
label_from [] n k p = zero_one (cc)
label_from (x ∷ ks) n k p = go (eqb n (label_of x)) refl p (label_from ks n k)
  where
    go : (b : Bool) → eqb n (label_of x) ≡ b → pick b (Some x) (kind_from ks n) ≡ Some k → (kind_from ks n ≡ Some k → n ≡ label_of k) → n ≡ label_of k
    go true e q ih = let y : x ≡ k = cc in eqb-true n (label_of x) e ∙ ap label_of y
    go false e q ih = ih q

-- ---- which kind a label alone names

-- what is answered, by what the label names
abbrev named_by : Option Kind → Result Kind Refusal
named_by l = answered (first_refusal (check (is_known l) unknown_label ∷ [])) (kind_named l)

named_is : (label : ℕ) (l : Option Kind) → kind_from all_kinds label ≡ l → named_of label ≡ named_by l
unfolding named_of name_refusal
named_is label l e = ap named_by e

-- as the code has it
pub named_or : (label : ℕ) → named_of label ≡ ok_or (kind_from all_kinds label) (numbered unknown_label)
named_or label = named_is label (kind_from all_kinds label) refl ∙ go (kind_from all_kinds label)
  where
    go : (l : Option Kind) → named_by l ≡ ok_or l (numbered unknown_label)
    go (Some k) = refl
    go None = refl

pub names_exactly : (label : ℕ) (k : Kind) → (named_of label ≡ Ok k) ↔ (label ≡ label_of k)
names_exactly label k = (λ e. to (kind_from all_kinds label) refl e, λ e. named_is label (Some k) (ap (kind_from all_kinds) e ∙ labelled k))
  where
    to : (l : Option Kind) → kind_from all_kinds label ≡ l → named_of label ≡ Ok k → label ≡ label_of k
    to (Some j) e f =
        let q : Ok j ≡ Ok k = sym (named_is label (Some j) e) ∙ f in
        let same : j ≡ k = cc in
        label_from all_kinds label k (e ∙ ap Some same)
    to None e f = let q : Err (numbered unknown_label) ≡ Ok k = sym (named_is label None e) ∙ f in zero_one (cc)

pub unknown_exactly : (label : ℕ) → (named_of label ≡ Err (numbered unknown_label)) ↔ ((k : Kind) → label ≡ label_of k → ⊥)
unknown_exactly label = (λ e k is. refused k ((names_exactly label k).1 is) e, λ none. from (kind_from all_kinds label) refl none)
  where
    refused : (k : Kind) → named_of label ≡ Ok k → named_of label ≡ Err (numbered unknown_label) → ⊥
    refused k e f = let q : Ok k ≡ Err (numbered unknown_label) = sym e ∙ f in zero_one (cc)

    from : (l : Option Kind) → kind_from all_kinds label ≡ l → ((k : Kind) → label ≡ label_of k → ⊥) → named_of label ≡ Err (numbered unknown_label)
    from (Some k) e none = absurd (none k (label_from all_kinds label k e))
    from None e none = named_is label None e
