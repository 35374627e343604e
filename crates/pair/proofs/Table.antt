-- The definition's pair table as a grid, which the proof of `is_pair` holds the code's grid against, entry by entry. Assumes nothing.
use mathlib.Core.Path.{◌≡◌, ap, ◌∙◌}
use mathlib.Core.Bool.{Bool, false}
use mathlib.Core.List.{List, [], map}
use Prim.Native.Nat.{ℕ}
use lib.ListN.{get_or}
use Rattle.kind.specs.Layouts.{all_kinds, number_of}
use Rattle.kind.specs.declared.Kind.{Kind}
use Rattle.pair.specs.Pairs.{pair_of}
use Rattle.kind.proofs.TableLaws.{row_at}

-- a row for each first kind and a column for each second
unfoldable pub pairs : List (List Bool)
pairs = map (λ (first : Kind). map (pair_of first) all_kinds) all_kinds

abbrev pub entry : ℕ → ℕ → Bool
entry row column = get_or (get_or pairs row []) column false

pub pair_at : (a b : Kind) → entry (number_of a) (number_of b) ≡ pair_of a b
unfolding pairs
pair_at a b =
    ap (λ (row : List Bool). get_or row (number_of b) false) (row_at (λ (first : Kind). map (pair_of first) all_kinds) a []) ∙ row_at (pair_of a) b false
