-- Which kind the label of a word names, exactly: bits 1 to 6 alone tell it, whatever stands above them. Assumes nothing.
use mathlib.Core.Path.{◌≡◌, ap, ◌∙◌}
use mathlib.Core.Bool.{true}
use mathlib.Core.Logic.{◌↔◌}
use Prim.Native.Nat.{ℕ, ◌%◌}
use Rattle.kind.specs.Layouts.{all_kinds, label_of}
use Rattle.kind.specs.Labels.{kind_from, labelled_of, is_known, kind_named}
use Rattle.kind.specs.declared.Kind.{Kind}
use Rattle.pair.specs.Opening.{is_labelled, word_kind}
use Rattle.kind.proofs.LabelLaws.{labelled, label_from}
use Rattle.pair.proofs.Demand2.{known_is}

pub labelled_exactly : (word : ℕ) → (is_labelled word ≡ true) ↔ ((k : Kind) × (word % 64 ≡ label_of k))
labelled_exactly word = (
  λ e. (word_kind word, label_from all_kinds (word % 64) (word_kind word) (known_is (labelled_of word) e)),
  λ w. ap is_known (ap (kind_from all_kinds) w.1 ∙ labelled w.0),
)

pub kind_exactly : (word : ℕ) (k : Kind) → word % 64 ≡ label_of k → word_kind word ≡ k
kind_exactly word k e = ap kind_named (ap (kind_from all_kinds) e ∙ labelled k)
