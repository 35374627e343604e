-- `words::check_octet` meets its contract. The loop's invariant: the number holds the check bits passed. Assumes nothing.
use mathlib.Core.List.{List}
use mathlib.Core.Path.{◌≡◌, refl, sym, ap, ◌∙◌}
use Prim.Native.Nat.{ℕ, ◌+◌, ◌-◌, ◌*◌, ◌%◌, ◌^◌, ◌<◌}
use native.Mathlib.Nat.{mod-lt}
use native.Mathlib.Omega.{arith}
use borrow.Author.Rules.{rules}
use lib.Bits.{bit_or}
use lib.Count.{ones}
use lib.Dec.{lit<}
use Rattle.bits.specs.Numbers.{num_of}
use Rattle.bits.specs.Tests.{every}
use Rattle.frame.specs.Frame.{column_of}
use Rattle.bits.proofs.NumberLaws.{num_none, num_turn, num_lt}
use Rattle.bits.proofs.TestLaws.{rule_at}
use Rattle.frame.proofs.FrameLaws.{column_ones, frame_0}
use Rattle.words.proofs.check_octet.Invariants.{check_at}
use Rattle.words.proofs.check_octet.Goals as goal

check_lt : (s : List ℕ) (i : ℕ) → check_at s i < 2
check_lt s i = mod-lt _ (lit< tt)

-- the mark, six bits and the final one
framed : (x : ℕ) → x < 64 → bit_or 129 ((x * 2 ^ 1) % 2 ^ 8) ≡ 129 + x * 2
unfolding every
framed = rule_at (λ x. bit_or 129 ((x * 2 ^ 1) % 2 ^ 8)) (λ x. 129 + x * 2) 64 refl

pub loop-i-init : goal.loop-i-init
loop-i-init c = sym (num_none _)

pub loop-i-preserved : goal.loop-i-preserved
loop-i-preserved c =
    let s = c.args.image.now in
    let i = c.loop-i.i in
    num_turn (check_at s) 8 i _ _ (search rules) (check_lt s) c.loop-i.invariant
    (ap (λ (n : ℕ). (ones n + 1) % 2) c.column.ensures
    ∙ ap (λ (n : ℕ). (n + 1) % 2) (column_ones s 0 (6 - i) ∙ ap (λ (b : ℕ → ℕ). column_of b (6 - i)) (frame_0 s)))

pub returns : goal.returns
returns c =
    let s = c.args.image.now in
    let e : c.loop-i.i ≡ 6 = omega arith in
    ap (λ (n : ℕ). bit_or 129 ((n * 2 ^ 1) % 2 ^ 8)) (c.loop-i.invariant ∙ ap (num_of (check_at s)) e)
    ∙ framed (num_of (check_at s) 6) (num_lt (check_at s) 6 (λ k _. check_lt s k))
