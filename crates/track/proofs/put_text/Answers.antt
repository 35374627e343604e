-- `track::put_text` meets its contract. Assumes nothing.
use mathlib.Core.List.{List, [], ◌∷◌}
use mathlib.Core.Path.{◌≡◌, ◌∙◌, ap}
use Prim.Native.Nat.{ℕ}
use lib.ListN.{length, set}
use Rattle.bits.specs.Numbers.{tab}
use Rattle.bits.proofs.NumberLaws.{as_tab}
use Rattle.track.proofs.put_text.Goals as goal

abbrev four : List ℕ → ℕ → ℕ → ℕ → ℕ → List ℕ
four l a b c d = set (set (set (set l 0 a) 1 b) 2 c) 3 d

fifth : (l : List ℕ) (a b c d e : ℕ) → length l ≡ 5 → set (four l a b c d) 4 e ≡ a ∷ b ∷ c ∷ d ∷ e ∷ []
unfolding tab
fifth l a b c d e h = ap (λ (s : List ℕ). set (four s a b c d) 4 e) (as_tab 5 l h)

pub returns : goal.returns
returns c =
    let begin = c in
    let a = c.letter in
    let b = c.letter-2 in
    let d = c.digit in
    let e = c.digit-2 in
    fifth begin.args.text.now a.result b.result d.result e.result c.digit-3.result begin.requires
    ∙ rw (a.ensures, b.ensures, d.ensures, e.ensures, c.digit-3.ensures)
