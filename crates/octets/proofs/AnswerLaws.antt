-- The one bit of an octet at which a frame can end, and what is answered by it. Assumes nothing.
use mathlib.Core.Path.{◌≡◌, refl, sym, ap, ◌∙◌}
use mathlib.Core.Bool.{Bool, true, false}
use Prim.Native.Nat.{ℕ, zero, suc, ◌+◌, ◌*◌, ◌^◌, ◌≤◌, ◌<◌}
use native.Mathlib.Nat.{mod-lt, zero-add}
use native.Mathlib.Omega.{arith}
use borrow.Author.Tests.{lt-ltb}
use lib.Dec.{lit<}
use Rattle.bits.specs.Tests.{pick}
use Rattle.bits.specs.Octets.{bit_at}
use Rattle.frame.specs.Frame.{good_frame, frame_at}
use Rattle.line.specs.Machine.{holds_frame, handed_of}
use Rattle.line.specs.declared.Window.{Window}
use Rattle.bits.proofs.TestLaws.{by_lt, never_true}
use Rattle.frame.proofs.FrameLaws.{good_ext, apart}
use Rattle.frame.proofs.LeadLaws.{lead_is}
use Rattle.line.proofs.WindowLaws.{low_self}
use Rattle.octets.specs.Feeding.{taken, ends_at, last_that, end_bit, answer_at}
use Rattle.octets.specs.OctetSteps.{lead_of, nothing_heard, heard_as}
use Rattle.octets.proofs.TakeLaws.{seventeen, taken_bit}

-- ---- the last that passes

last_none : (f : ℕ → Bool) (n : ℕ) → ((k : ℕ) → 1 ≤ k → k ≤ n → f k ≡ false) → last_that f n ≡ 0
unfolding last_that
last_none f zero h = refl
last_none f (suc n) h = rw (h (suc n) (omega arith) (omega arith)) (last_none f n (λ k a b. h k a (omega arith)))

last_le : (f : ℕ → Bool) (n : ℕ) → last_that f n ≤ n
unfolding last_that
last_le f zero = omega arith
last_le f (suc n) = go (f (suc n)) (last_le f n)
  where
    go : (t : Bool) → last_that f n ≤ n → pick t (suc n) (last_that f n) ≤ suc n
    go true h = omega arith
    go false h = omega arith

pub bit_le : (w : Window) (o : ℕ) → end_bit w o ≤ 8
unfolding end_bit
bit_le w o = last_le (ends_at w o) 8

-- where only j can pass
last_one : (f : ℕ → Bool) (n j : ℕ) → 1 ≤ j → j ≤ n → ((k : ℕ) → 1 ≤ k → k ≤ n → (k ≡ j → ⊥) → f k ≡ false) → last_that f n ≡ pick (f j) j 0
unfolding last_that
last_one f zero j a b h = absurd (omega arith)
last_one f (suc n) j a b h =
    by_lt n j
    (λ last.
    let e : suc n ≡ j = omega arith in
    let z : last_that f n ≡ 0 = last_none f n (λ k p q. h k p (omega arith) (λ x. omega arith)) in
    ap (λ (m : ℕ). pick (f (suc n)) (suc n) m) z ∙ ap (λ (m : ℕ). pick (f m) m 0) e)
    (λ before.
    let e : f (suc n) ≡ false = h (suc n) (omega arith) (omega arith) (λ x. omega arith) in
    ap (λ (t : Bool). pick t (suc n) (last_that f n)) e ∙ last_one f n j a before (λ k p q. h k p (omega arith)))

module _ (w : Window) (o : ℕ) (a : w.older < 2 ^ 64) (b : w.newer < 2 ^ 64) (octet : o < 256) where
  -- a good frame that ends at bit j begins at position j of the seventeen octets
  begins_at : (j : ℕ) → j ≤ 8 → ends_at w o j ≡ true → good_frame (frame_at (seventeen w o) j) ≡ true
  unfolding holds_frame
  begins_at j k e = sym (good_ext _ _ (taken_bit w (w.older * 2 ^ 64 + w.newer) o (low_self w a b) octet j k)) ∙ e

  -- at most one frame ends in an octet, whatever the state: good frames lie apart
  pub at_most_one : (j k : ℕ) → j ≤ 8 → k ≤ 8 → ends_at w o j ≡ true → ends_at w o k ≡ true → j ≡ k
  at_most_one j k p q e f =
      by_lt j k (λ l. absurd (far j k p q e f l)) (λ h. by_lt k j (λ l. absurd (far k j q p f e l)) (λ g. omega arith))
    where
      far : (j k : ℕ) → j ≤ 8 → k ≤ 8 → ends_at w o j ≡ true → ends_at w o k ≡ true → j < k → ⊥
      far j k p q e f l = omega (arith, apart (bit_at (seventeen w o)) j k (begins_at j p e) (begins_at k q f) l)

  -- a frame that ends in the octet ends after as many bits as the window's second octet has zeros at its front
  only : (k : ℕ) → k ≤ 8 → ends_at w o k ≡ true → lead_of w ≡ k
  only k few e = lead_is (seventeen w o) 0 k (mod-lt _ (lit< tt)) few (ap (λ (m : ℕ). good_frame (frame_at (seventeen w o) m)) (zero-add k) ∙ begins_at k few e)

  bit_none : lead_of w ≡ 0 → end_bit w o ≡ 0
  unfolding end_bit
  bit_none e = last_none (ends_at w o) 8 (λ k p q. never_true _ (λ g. omega (arith, only k q g)))

  bit_one : (j : ℕ) → 1 ≤ j → j ≤ 8 → lead_of w ≡ j → end_bit w o ≡ pick (ends_at w o j) j 0
  unfolding end_bit
  bit_one j p q e = last_one (ends_at w o) 8 j p q (λ k x y n. never_true _ (λ g. n (sym (only k y g) ∙ e)))

  -- the bit answered is the one at which a frame ends
  pub bit_is : (j : ℕ) → 1 ≤ j → j ≤ 8 → ends_at w o j ≡ true → end_bit w o ≡ j
  bit_is j p q g = bit_one j p q (only j q g) ∙ ap (λ (t : Bool). pick t j 0) g

  -- ---- the answer of a step

  pub heard_none : lead_of w ≡ 0 → nothing_heard (record { window = taken w o 8 }) ≡ answer_at w o (end_bit w o)
  heard_none e = sym (ap (answer_at w o) (bit_none e))

  pub heard_one : (j : ℕ) → 1 ≤ j → j ≤ 8 → lead_of w ≡ j
      → heard_as (record { window = taken w o 8 }) (handed_of (taken w o j)) j ≡ answer_at w o (end_bit w o)
  heard_one j p q e = go (ends_at w o j) refl ∙ sym (ap (answer_at w o) (bit_one j p q e))
    where
      go : (t : Bool) → ends_at w o j ≡ t → heard_as (record { window = taken w o 8 }) (handed_of (taken w o j)) j ≡ answer_at w o (pick (ends_at w o j) j 0)
      go true g = rw (g, lt-ltb 0 j p)
      go false g = rw g
