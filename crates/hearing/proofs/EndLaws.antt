-- The numbers of bits with which a good frame has come to its end: they lie apart, and they are what the octet receiver says. Assumes
-- nothing.
use mathlib.Core.Path.{◌≡◌, refl, sym, ap, ap₂, ◌∙◌}
use mathlib.Core.Bool.{Bool, true, false}
use mathlib.Core.List.{List, [], ◌∷◌, ◌++◌, append-nil}
use Prim.Native.Nat.{ℕ, zero, suc, ◌+◌, ◌-◌, ◌*◌, ◌≤◌, ◌<◌}
use native.Mathlib.Nat.{add-zero, add-suc}
use native.Mathlib.Omega.{arith}
use borrow.Author.Tests.{le-leb, lt-leb, leb-true, ltb-true, eq-eqb, ne_eqb}
use lib.Dec.{eqb, leb}
use lib.ListN.{length, get_or, length-append}
use Rattle.bits.specs.Tests.{pick, both}
use Rattle.bits.specs.Octets.{AreOctets, bit_at}
use Rattle.sieve.specs.Capture.{good_at}
use Rattle.octets.specs.Feeding.{fed_to, heard_at}
use Rattle.octets.specs.ToldOctets.{framed_at}
use Rattle.bits.proofs.TestLaws.{by_lt, both_true, both_false, never_true}
use Rattle.frame.proofs.FrameLaws.{apart}
use Rattle.sieve.proofs.SieveLaws.{good_frame_lem}
use Rattle.octets.proofs.AnswerLaws.{bit_le}
use Rattle.octets.proofs.Demand3.{octets_good}
use Rattle.hearing.specs.Ends.{ends_after, ends_to, end_in, heard_to}

module _ (capture : List ℕ) where
  -- ---- the numbers in their order

  -- none of d numbers after a
  pub ends_none : (a d : ℕ) → ((n : ℕ) → a < n → n ≤ a + d → ends_after capture n ≡ false) → ends_to capture (a + d) ≡ ends_to capture a
  unfolding ends_to
  ends_none a zero h = ap (ends_to capture) (add-zero a)
  ends_none a (suc d) h =
      ap (ends_to capture) (add-suc a d)
      ∙ ap (λ (t : Bool). ends_to capture (a + d) ++ pick t (suc (a + d) ∷ []) []) (h (suc (a + d)) (omega arith) (omega arith))
      ∙ append-nil (ends_to capture (a + d)) ∙ ends_none a d (λ n p q. h n p (omega arith))

  -- the last of d numbers after a, and no other
  pub ends_one : (a d : ℕ) → 1 ≤ d → ends_after capture (a + d) ≡ true → ((n : ℕ) → a < n → n < a + d → ends_after capture n ≡ false)
      → ends_to capture (a + d) ≡ ends_to capture a ++ (a + d) ∷ []
  unfolding ends_to
  ends_one a zero p e h = absurd (omega arith)
  ends_one a (suc d) p e h =
      let s : a + suc d ≡ suc (a + d) = add-suc a d in
      ap (ends_to capture) s
      ∙ ap (λ (t : Bool). ends_to capture (a + d) ++ pick t (suc (a + d) ∷ []) []) (ap (ends_after capture) (sym s) ∙ e)
      ∙ ap₂ (λ (l : List ℕ) (n : ℕ). l ++ n ∷ []) (ends_none a d (λ n q r. h n q (omega arith))) (sym s)

  -- ---- what such a number says

  pub ends_good_lem : (n : ℕ) → ends_after capture n ≡ true → (128 ≤ n) × (good_at capture (n - 128) ≡ true)
  unfolding ends_after
  ends_good_lem n e = let p = both_true {a = leb 128 n} {b = good_at capture (n - 128)} e in (leb-true _ _ p.0, p.1)

  -- two of them lie 128 apart
  ends_apart : (m n : ℕ) → m < n → ends_after capture m ≡ true → ends_after capture n ≡ true → m + 128 ≤ n
  ends_apart m n l a b =
      let p = ends_good_lem m a in
      let q = ends_good_lem n b in
      omega
      (arith, p.0, q.0, apart (bit_at capture) (m - 128) (n - 128) (good_frame_lem capture _ p.1) (good_frame_lem capture _ q.1) (omega (arith, p.0, q.0)))

  -- so they are few
  few_by : (fuel n : ℕ) → n < fuel → 128 * length (ends_to capture n) ≤ n
  unfolding ends_to
  few_by zero n h = absurd (omega arith)
  few_by (suc f) zero h = omega arith
  few_by (suc f) (suc n) h = go (ends_after capture (suc n)) refl (few_by f n (omega arith)) (few_by f (suc n - 128))
    where
      go : (t : Bool) → ends_after capture (suc n) ≡ t → 128 * length (ends_to capture n) ≤ n
          → (suc n - 128 < f → 128 * length (ends_to capture (suc n - 128)) ≤ suc n - 128)
          → 128 * length (ends_to capture n ++ pick (ends_after capture (suc n)) (suc n ∷ []) []) ≤ suc n
      go false e near back =
          let z : ends_to capture n ++ pick (ends_after capture (suc n)) (suc n ∷ []) [] ≡ ends_to capture n =
          ap (λ (t : Bool). ends_to capture n ++ pick t (suc n ∷ []) []) e ∙ append-nil (ends_to capture n) in
          omega (arith, ap length z)
      go true e near back =
          let big : 128 ≤ suc n = (ends_good_lem (suc n) e).0 in
          let s : suc n - 128 + 127 ≡ n = omega arith in
          let same : ends_to capture n ≡ ends_to capture (suc n - 128) =
          ap (ends_to capture) (sym s)
          ∙ ends_none (suc n - 128) 127 (λ m p q. never_true _ (λ x. omega (arith, ends_apart m (suc n) (omega arith) x e))) in
          let z : ends_to capture n ++ pick (ends_after capture (suc n)) (suc n ∷ []) [] ≡ ends_to capture (suc n - 128) ++ suc n ∷ [] =
          ap₂ (λ (l : List ℕ) (t : Bool). l ++ pick t (suc n ∷ []) []) same e in
          omega (arith, back (omega arith), ap length z, length-append (ends_to capture (suc n - 128)) (suc n ∷ []))

  pub ends_few : (n : ℕ) → 128 * length (ends_to capture n) ≤ n
  ends_few n = few_by (suc n) n (omega arith)

-- ---- what the octet receiver says

module _ (capture : List ℕ) (octets : AreOctets capture) where
  framed_is : (k j : ℕ) → k < length capture → 1 ≤ j → j ≤ 8 → framed_at (heard_at capture k) j ≡ ends_after capture (8 * k + j)
  unfolding ends_after good_at
  framed_is k j h p q =
      octets_good capture octets k j p q
      ∙ by_lt (8 * k + j) 128
      (λ short. rw (lt-leb 128 (8 * k + j) short))
      (λ long. rw (le-leb 128 (8 * k + j) long, le-leb (8 * k + j - 128 + 128) (8 * length capture) (omega arith)))

  -- the numbers for one octet more
  pub octet_ends : (k : ℕ) → k < length capture → ends_to capture (8 * k + 8) ≡ ends_to capture (8 * k) ++ end_in k (heard_at capture k)
  octet_ends k h = go (heard_at capture k).frame refl
    where
      at : (n : ℕ) → 8 * k < n → n ≤ 8 * k + 8 → ends_after capture n ≡ framed_at (heard_at capture k) (n - 8 * k)
      at n p q =
          let e : 8 * k + (n - 8 * k) ≡ n = omega arith in
          ap (ends_after capture) (sym e) ∙ sym (framed_is k (n - 8 * k) h (omega arith) (omega arith))

      go : (t : Bool) → (heard_at capture k).frame ≡ t
          → ends_to capture (8 * k + 8) ≡ ends_to capture (8 * k) ++ pick (heard_at capture k).frame ((8 * k + (heard_at capture k).bit) ∷ []) []
      go false e =
          ends_none capture (8 * k) 8 (λ n p q. at n p q ∙ ap (λ (t : Bool). both t (eqb (heard_at capture k).bit (n - 8 * k))) e)
          ∙ sym (append-nil (ends_to capture (8 * k)))
          ∙ sym (ap (λ (t : Bool). ends_to capture (8 * k) ++ pick t ((8 * k + (heard_at capture k).bit) ∷ []) []) e)
      go true e =
          let bit = (heard_at capture k).bit in
          let low : 0 < bit = ltb-true 0 bit e in
          let high : bit ≤ 8 = bit_le (fed_to capture k).window (get_or capture k 0) in
          let s : 8 * k + bit + (8 - bit) ≡ 8 * k + 8 = omega arith in
          let others : (n : ℕ) → 8 * k < n → n ≤ 8 * k + 8 → (bit ≡ n - 8 * k → ⊥) → ends_after capture n ≡ false =
          λ n p q x. at n p q ∙ ap (both (heard_at capture k).frame) (ne_eqb bit (n - 8 * k) x) ∙ both_false (heard_at capture k).frame in
          let here : ends_after capture (8 * k + bit) ≡ true =
          sym (framed_is k bit h low high) ∙ ap₂ both e (eq-eqb bit bit refl) in
          ap (ends_to capture) (sym s)
          ∙ ends_none capture (8 * k + bit) (8 - bit) (λ n p q. others n (omega arith) (omega arith) (λ x. omega arith))
          ∙ ends_one capture (8 * k) bit low here (λ n p q. others n p (omega arith) (λ x. omega arith))
          ∙ sym (ap (λ (t : Bool). ends_to capture (8 * k) ++ pick t ((8 * k + bit) ∷ []) []) e)

  -- so those of the first k octets are what it says of them
  pub ends_heard : (k : ℕ) → k ≤ length capture → ends_to capture (8 * k) ≡ heard_to capture k
  unfolding ends_to heard_to
  ends_heard zero h = refl
  ends_heard (suc k) h =
      let e : 8 * suc k ≡ 8 * k + 8 = omega arith in
      ap (ends_to capture) e ∙ octet_ends k (omega arith) ∙ ap (λ (l : List ℕ). l ++ end_in k (heard_at capture k)) (ends_heard k (omega arith))
