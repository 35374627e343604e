-- Where a good frame can begin. Assumes nothing.
use mathlib.Core.Path.{◌≡◌, refl, sym, ap, ◌∙◌}
use mathlib.Core.Bool.{true}
use mathlib.Core.List.{List}
use Prim.Native.Nat.{ℕ, zero, suc, ◌+◌, ◌-◌, ◌*◌, ◌/◌, ◌%◌, ◌^◌, ◌≤◌, ◌<◌}
use native.Mathlib.Omega.{arith}
use lib.Count.{count_leading_zeros}
use lib.Dec.{eqb, lit<}
use lib.ListN.{get_or}
use Rattle.bits.specs.Tests.{pick, every}
use Rattle.bits.specs.Octets.{bit_at}
use Rattle.frame.specs.Frame.{good_frame, frame_at}
use Rattle.bits.proofs.TestLaws.{rule_at}
use Rattle.bits.proofs.OctetLaws.{bit_in}
use Rattle.frame.proofs.FrameLaws.{start_zero, mark_one}

-- how many of f 0, f 1, .. f (n - 1) are zeros before the first that is not
unfoldable zeros_of : (ℕ → ℕ) → ℕ → ℕ
zeros_of f zero = 0
zeros_of f (suc n) = pick (eqb (f 0) 0) (suc (zeros_of (λ i. f (suc i)) n)) 0

zeros_are : (f : ℕ → ℕ) (n k : ℕ) → k ≤ n → ((i : ℕ) → i < k → f i ≡ 0) → (k < n → f k ≡ 1) → zeros_of f n ≡ k
unfolding zeros_of
zeros_are f zero zero h a b = refl
zeros_are f zero (suc k) h a b = absurd (omega arith)
zeros_are f (suc n) zero h a b = rw (b (omega arith))
zeros_are f (suc n) (suc k) h a b =
    rw (a 0 (omega arith)) (ap suc (zeros_are (λ i. f (suc i)) n k (omega arith) (λ i l. a (suc i) (omega arith)) (λ l. b (omega arith))))

-- the zeros at the front of an octet, by its bits
leading_bits : (x : ℕ) → x < 256 → count_leading_zeros 8 x ≡ zeros_of (λ r. x / 2 ^ (7 - r) % 2) 8
unfolding every zeros_of count_leading_zeros
leading_bits = rule_at (λ x. count_leading_zeros 8 x) (λ x. zeros_of (λ r. x / 2 ^ (7 - r) % 2) 8) 256 refl

-- A good frame that begins k bits behind the front of octet i, at most 8, leaves octet i + 1 just k zeros at its front: the last
-- of its start group, and then comes its first mark. So in nine places that follow one another at most one frame begins, and
-- the next octet alone says where.
pub lead_is : (s : List ℕ) (i k : ℕ) → get_or s (i + 1) 0 < 256 → k ≤ 8 → good_frame (frame_at s (8 * i + k)) ≡ true → count_leading_zeros 8 (get_or s (i + 1) 0) ≡ k
lead_is s i k octet few good = leading_bits (get_or s (i + 1) 0) octet ∙ zeros_are _ 8 k few start mark
  where
    start : (r : ℕ) → r < k → get_or s (i + 1) 0 / 2 ^ (7 - r) % 2 ≡ 0
    start r l =
        let e : 8 * (i + 1) + r + 1 ≡ 8 * i + k + (8 + r - k + 1) = omega arith in
        sym (bit_in s (i + 1) r (omega arith)) ∙ ap (bit_at s) e ∙ start_zero (frame_at s (8 * i + k)) good (8 + r - k) (omega arith)

    mark : k < 8 → get_or s (i + 1) 0 / 2 ^ (7 - k) % 2 ≡ 1
    mark l =
        let e : 8 * (i + 1) + k + 1 ≡ 8 * i + k + (8 * 0 + 9) = omega arith in
        sym (bit_in s (i + 1) k l) ∙ ap (bit_at s) e ∙ mark_one (frame_at s (8 * i + k)) good 0 (lit< tt)
