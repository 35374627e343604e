-- Why the search may pass octets: what a good frame says of the octets that it lies in. Assumes nothing.
use mathlib.Core.Path.{◌≡◌, refl, sym, ap, subst, ◌∙◌}
use mathlib.Core.Bool.{Bool, true, false}
use mathlib.Core.List.{List}
use Prim.Native.Nat.{ℕ, zero, suc, ◌+◌, ◌-◌, ◌*◌, ◌/◌, ◌%◌, ◌^◌, ◌≤◌, ◌<◌, min}
use native.Mathlib.Nat.{add-zero, min-eq_left, zero-div, div-one}
use native.Mathlib.Omega.{arith}
use borrow.Author.Tests.{le-leb, leb-true}
use lib.Bits.{bit_and, and_step, and_shr}
use lib.Count.{count_leading_zeros}
use lib.Dec.{eqb, leb}
use Rattle.std.proofs.Common.{Ok, Err}
use lib.ListN.{length, get_or}
use Rattle.std.specs.List.{between, AllWithin}
use Rattle.std.specs.Result.{is_ok}
use Rattle.std.proofs.lemmas.List.Edits.{get_or-between}
use Rattle.bits.specs.Tests.{pick, every}
use Rattle.bits.specs.Octets.{bit_at}
use Rattle.refusal.specs.Refusals.{success}
use Rattle.refusal.specs.Checks.{answered}
use Rattle.refusal.specs.declared.Refusal.{Refusal}
use Rattle.frame.specs.Frame.{good_frame, frame_at}
use Rattle.sieve.specs.Capture.{good_at, NoneIn, NoneFrom}
use Rattle.sieve.specs.Sieve.{PassedOver}
use Rattle.bits.proofs.TestLaws.{by_lt, both_true, clash, never_true, rule_at}
use Rattle.bits.proofs.NumberLaws.{num_ext, num_of_lem, num_zero, shl_low}
use Rattle.bits.proofs.OctetLaws.{bit_in}
use Rattle.frame.proofs.FrameLaws.{start_zero, mark_one}
use Rattle.frame.proofs.LeadLaws.{lead_is}

-- an answer that is a value, as a test of the number
pub value_told : (r : Refusal) → is_ok (answered r (tt {0})) ≡ eqb r.number success
value_told r = go (eqb r.number success)
  where
    go : (t : Bool) → is_ok (pick t (Ok (tt {0})) (Err r)) ≡ t
    go true = refl
    go false = refl

-- ---- a good frame at a position

module _ (s : List ℕ) (p : ℕ) where
  -- where it lies whole, the frame alone decides
  pub lies_good : p + 128 ≤ 8 * length s → good_frame (frame_at s p) ≡ good_at s p
  unfolding good_at
  lies_good h = rw (le-leb (p + 128) (8 * length s) h)

  pub good_frame_lem : good_at s p ≡ true → good_frame (frame_at s p) ≡ true
  unfolding good_at
  good_frame_lem e = (both_true {a = leb (p + 128) (8 * length s)} {b = good_frame (frame_at s p)} e).1

  pub good_whole : good_at s p ≡ true → p + 128 ≤ 8 * length s
  unfolding good_at
  good_whole e = leb-true _ _ (both_true {a = leb (p + 128) (8 * length s)} {b = good_frame (frame_at s p)} e).0

  -- what cannot be good is not good
  pub not_good : (good_at s p ≡ true → ⊥) → good_at s p ≡ false
  not_good = never_true (good_at s p)

-- ---- positions without a good frame

pub none_join : (s : List ℕ) (a p b c : ℕ) → NoneIn s a p → b ≤ p → NoneIn s b c → NoneIn s a c
none_join s a p b c none h more q l m = by_lt q p (λ below. none q l below) (λ above. more q (omega arith) m)

-- no frame lies whole so near the end
pub none_end : (s : List ℕ) (a p : ℕ) → NoneIn s a p → 8 * length s < p + 128 → NoneFrom s a
none_end s a p none h q l =
    by_lt q p (none q l) (λ above. not_good s q (λ e. omega (arith, good_whole s q e)))

-- ---- an octet whose last bit is one

pub pass_none : (s : List ℕ) (i : ℕ) → i ≤ length s → PassedOver s i i
pass_none s i h = record { from = omega arith; to = h; none = λ p a b. absurd (omega arith) }

-- the start group of a frame covers the last bit of the octet that it begins in
pub idle_more : (s : List ℕ) (i o : ℕ) → PassedOver s i o → o < length s → (get_or s o 0 % 2 ≡ 0 → ⊥) → PassedOver s i (o + 1)
idle_more s i o idle h odd =
    record {
      from = omega (arith, idle.from);
      to = omega arith;
      none = none_join s (8 * i) (8 * o) (8 * o) (8 * (o + 1)) idle.none (omega arith) (λ p a b. not_good s p (λ e. odd (even p a b e)));
    }
  where
    even : (p : ℕ) → 8 * o ≤ p → p < 8 * (o + 1) → good_at s p ≡ true → get_or s o 0 % 2 ≡ 0
    even p a b e =
        let n = 8 * o + 7 - p in
        let q : p + (n + 1) ≡ 8 * o + 7 + 1 = omega arith in
        ap (λ (x : ℕ). x % 2) (sym (div-one (get_or s o 0))) ∙ sym (bit_in s o 7 (omega arith)) ∙ ap (bit_at s) (sym q)
        ∙ start_zero (frame_at s p) (good_frame_lem s p e) n (omega arith)

-- so n octets are passed whose last bits are ones
pub idle_run : (s : List ℕ) (i n : ℕ) → i + n ≤ length s → ((k : ℕ) → k < n → get_or s (i + k) 0 % 2 ≡ 0 → ⊥) → PassedOver s i (i + n)
idle_run s i zero h odd = rw (add-zero i) (pass_none s i (omega arith))
idle_run s i (suc n) h odd =
    let e : i + n + 1 ≡ i + suc n = omega arith in
    let before = idle_run s i n (omega arith) (λ k l. odd k (omega arith)) in
    subst (PassedOver s i) e (idle_more s i (i + n) before (omega arith) (odd n (omega arith)))

-- the same of the octets from i on as a part of the capture
pub idle_part : (s : List ℕ) (i n : ℕ) → i ≤ length s → n ≤ length s - i
    → AllWithin (λ x. x % 2 ≡ 0 → ⊥) (between i (length s) s) 0 n → PassedOver s i (i + n)
idle_part s i n h l odd =
    idle_run s i n (omega arith)
    (λ k m e. odd k 0 (omega arith) m (ap (λ (x : ℕ). x % 2) (get_or-between s i (length s) k 0 (omega arith)) ∙ e))

-- ---- the marks

-- mark g of a good frame at p stands in octet p / 8 + g + 1, in the place of p in its octet
mark_octet : (s : List ℕ) (p g : ℕ) → good_at s p ≡ true → g < 15 → get_or s (p / 8 + g + 1) 0 / 2 ^ (7 - p % 8) % 2 ≡ 1
mark_octet s p g e h =
    let q : 8 * (p / 8 + g + 1) + p % 8 + 1 ≡ p + (8 * g + 9) = omega arith in
    sym (bit_in s (p / 8 + g + 1) (p % 8) (omega arith)) ∙ ap (bit_at s) q ∙ mark_one (frame_at s p) (good_frame_lem s p e) g h

-- a bit of an AND, where the other number has a one
and_one : (a b m : ℕ) → b / 2 ^ m % 2 ≡ 1 → bit_and a b / 2 ^ m % 2 ≡ a / 2 ^ m % 2
and_one a b m h =
    let x = a / 2 ^ m in
    let y = b / 2 ^ m in
    let le : x % 2 ≤ 1 = omega arith in
    let e : bit_and a b / 2 ^ m ≡ bit_and (x / 2) (y / 2) * 2 + x % 2 =
    and_shr a b m ∙ and_step x y ∙ ap (λ (n : ℕ). bit_and (x / 2) (y / 2) * 2 + n) (ap (min (x % 2)) h ∙ min-eq_left le) in
    omega (arith, e)

-- `ones` has a zero in each place of an octet at which no good frame begins, in any of the octets i to i + from - 1
pub record Sifted (capture : List ℕ) (i ones from : ℕ) : Type 0 where
  pub least : 1 ≤ from
  pub most : from ≤ 16
  pub passed : (p : ℕ) → 8 * i ≤ p → p < 8 * (i + from) → ones / 2 ^ (7 - p % 8) % 2 ≡ 0 → good_at capture p ≡ false

pub sift_start : (s : List ℕ) (i : ℕ) → Sifted s i 255 16
unfolding every
sift_start s i = record { least = omega arith; most = omega arith; passed = λ p a b z. absurd (omega (arith, one (p % 8) (omega arith))) }
  where
    one : (r : ℕ) → r < 8 → 255 / 2 ^ (7 - r) % 2 ≡ 1
    one = rule_at (λ r. 255 / 2 ^ (7 - r) % 2) (λ r. 1) 8 refl

pub sift_more : (s : List ℕ) (i ones n : ℕ) → Sifted s i ones n → 1 < n → Sifted s i (bit_and ones (get_or s (i + (n - 1)) 0)) (n - 1)
sift_more s i ones n sf more =
    let most = sf.most in
    record { least = omega arith; most = omega arith; passed = λ p a b z. not_good s p (λ e. none p a b z e) }
  where
    none : (p : ℕ) → 8 * i ≤ p → p < 8 * (i + (n - 1)) → bit_and ones (get_or s (i + (n - 1)) 0) / 2 ^ (7 - p % 8) % 2 ≡ 0 → good_at s p ≡ true → ⊥
    none p a b z e =
        let most = sf.most in
        let g = i + (n - 1) - p / 8 - 1 in
        let o : p / 8 + g + 1 ≡ i + (n - 1) = omega arith in
        let one : get_or s (i + (n - 1)) 0 / 2 ^ (7 - p % 8) % 2 ≡ 1 =
        ap (λ (k : ℕ). get_or s k 0 / 2 ^ (7 - p % 8) % 2) (sym o) ∙ mark_octet s p g e (omega arith) in
        clash e (sf.passed p a (omega arith) (sym (and_one ones (get_or s (i + (n - 1)) 0) (7 - p % 8) one) ∙ z))

-- an AND that is zero: no frame begins in any of these octets
pub sift_none : (s : List ℕ) (i ones from : ℕ) → Sifted s i ones from → ones ≡ 0 → i + 16 ≤ length s → PassedOver s i (i + from)
sift_none s i ones from sf e h =
    record {
      from = omega arith;
      to = omega (arith, sf.most);
      none = λ p a b. sf.passed p a b (ap (λ (n : ℕ). n / 2 ^ (7 - p % 8) % 2) e ∙ ap (λ (n : ℕ). n % 2) (zero-div (2 ^ (7 - p % 8))));
    }

-- ---- the one position of an octet

-- what octet i has of the start group of a frame that begins r bits behind its front, shifted to the front, is zeros
pub not_started : (s : List ℕ) (i r : ℕ) → r < 8 → ((get_or s i 0 * 2 ^ r) % 2 ^ 8 ≡ 0 → ⊥) → good_at s (8 * i + r) ≡ false
not_started s i r few other = not_good s (8 * i + r) (λ e. other (zeros e))
  where
    zeros : good_at s (8 * i + r) ≡ true → (get_or s i 0 * 2 ^ r) % 2 ^ 8 ≡ 0
    zeros e =
        let x = get_or s i 0 in
        let none : x % 2 ^ (8 - r) ≡ 0 =
        sym (num_of_lem x (8 - r))
        ∙ num_ext _ (λ k. 0) (8 - r)
        (λ k l.
        let at : 8 * i + (7 - k) + 1 ≡ 8 * i + r + (7 - k - r + 1) = omega arith in
        let weight : 7 - (7 - k) ≡ k = omega arith in
        ap (λ (m : ℕ). x / 2 ^ m % 2) (sym weight) ∙ sym (bit_in s i (7 - k) (omega arith)) ∙ ap (bit_at s) at
        ∙ start_zero (frame_at s (8 * i + r)) (good_frame_lem s (8 * i + r) e) (7 - k - r) (omega arith))
        ∙ num_zero (8 - r) in
        shl_low x r 8 (omega arith) ∙ ap (λ (m : ℕ). m * 2 ^ r) none ∙ omega arith

-- In octet i, and at the front of the next, a frame begins only where the next octet has its first one.
module _ (s : List ℕ) (i q : ℕ) (octet : get_or s (i + 1) 0 < 256) (lead : q ≡ 8 * i + count_leading_zeros 8 (get_or s (i + 1) 0)) where
  only_lead : (p : ℕ) → 8 * i ≤ p → p ≤ 8 * i + 8 → (p ≡ q → ⊥) → good_at s p ≡ false
  only_lead p a b other =
      not_good s p
      (λ e.
      let at : p ≡ 8 * i + (p - 8 * i) = omega arith in
      let k : count_leading_zeros 8 (get_or s (i + 1) 0) ≡ p - 8 * i =
      lead_is s i (p - 8 * i) octet (omega arith) (ap (λ (m : ℕ). good_frame (frame_at s m)) (sym at) ∙ good_frame_lem s p e) in
      other (omega arith))

  -- none before that position, and none at all where that one is not good
  pub none_before : (p : ℕ) → 8 * i ≤ p → q ≤ 8 * i + 8 → NoneIn s p q
  none_before p a b r l m = only_lead r (omega arith) (omega arith) (λ e. omega arith)

  pub none_but : (p : ℕ) → 8 * i ≤ p → (p ≤ q → q < 8 * i + 8 → good_at s q ≡ false) → NoneIn s p (8 * i + 8)
  none_but p a h r l m =
      by_lt r q (λ below. only_lead r (omega arith) (omega arith) (λ e. omega arith))
      (λ above.
      by_lt q r (λ over. only_lead r (omega arith) (omega arith) (λ e. omega arith))
      (λ here. let e : r ≡ q = omega arith in ap (good_at s) e ∙ h (omega arith) (omega arith)))
