-- `near` is the nearest step, with a half away from zero, and the only such step. Assumes nothing.
use mathlib.Core.Bool.{Bool, true, false}
use mathlib.Core.Path.{◌≡◌, refl, sym, ap, subst, ◌∙◌}
use mathlib.Core.Logic.{◌↔◌}
use Prim.Native.Nat.{ℕ, suc, ◌+◌, ◌*◌, min, ◌≤◌, ◌<◌}
use native.Mathlib.Omega.{arith}
use borrow.Author.Tests.{leb-true, le-leb, lt-leb}
use lib.IntN.{ℤ, pos, negsuc, neg_ℤ, nat_abs, ◌-ℤ◌, ◌*ℤ◌}
use lib.Signed.{le_z}
use Rattle.std.specs.Prelude.{Ok, Err}
use Rattle.bits.specs.Tests.{pick}
use Rattle.refusal.specs.Refusals.{numbered, out_of_range}
use Rattle.units.specs.Steps.{near}
use Rattle.units.specs.Heights.{near_alt, altitude_of, height_checks, height_refusal, height_of}
use Rattle.units.specs.Nearest.{dist, Nearest}
use Rattle.units.specs.declared.AltSteps.{AltSteps}
use Rattle.bits.proofs.TestLaws.{by_lt, zero_one}
use Rattle.refusal.proofs.CheckLaws.{success_passed, answer_is}
use Rattle.units.proofs.Parts.{up, dn, side, abs_parts, from_parts, add_parts, neg_parts, mul_parts, le_false}
use Rattle.units.proofs.Rounding.{near_parts}

-- the distance, by its parts: h above, l below
pub record Apart (k : ℕ) (n f : ℤ) : Type 0 where
  pub h : ℕ
  pub l : ℕ
  pub gap : h + (k * dn n + up f) ≡ (k * up n + dn f) + l
  pub one : min h l ≡ 0
  pub is : dist k n f ≡ h + l

pub apart : (k : ℕ) (n f : ℤ) → Apart k n f
unfolding dist
apart k n f =
    record {
      h = up (pos k *ℤ n -ℤ f);
      l = dn (pos k *ℤ n -ℤ f);
      gap = omega (arith, add_parts (pos k *ℤ n) (neg_ℤ f), neg_parts f, mul_parts k n);
      one = side (pos k *ℤ n -ℤ f);
      is = abs_parts (pos k *ℤ n -ℤ f);
    }

-- ---- link steps

-- at most half a step away
pub near_within : (f : ℤ) → dist 750 (near f) f ≤ 375
near_within f = omega (arith, apart 750 (near f) f, near_parts f, side f)

near_close : (f m : ℤ) → dist 750 (near f) f ≤ dist 750 m f
near_close f m = omega (arith, apart 750 (near f) f, apart 750 m f, near_parts f, side f, side m)

near_away : (f m : ℤ) → dist 750 m f ≡ dist 750 (near f) f → nat_abs m ≤ nat_abs (near f)
near_away f m e = omega (arith, apart 750 (near f) f, apart 750 m f, near_parts f, side f, side m, abs_parts m, abs_parts (near f))

pub near_nearest : (f : ℤ) → Nearest 750 f (near f)
near_nearest f = record { close = near_close f; away = near_away f }

-- ---- altitude steps

alt_close : (f : ℕ) (m : ℤ) → dist 375 (pos (near_alt f)) (pos f) ≤ dist 375 m (pos f)
unfolding near_alt
alt_close f m = omega (arith, apart 375 (pos (near_alt f)) (pos f), apart 375 m (pos f), side m)

alt_away : (f : ℕ) (m : ℤ) → dist 375 m (pos f) ≡ dist 375 (pos (near_alt f)) (pos f) → nat_abs m ≤ nat_abs (pos (near_alt f))
unfolding near_alt
alt_away f m e = omega (arith, apart 375 (pos (near_alt f)) (pos f), apart 375 m (pos f), side m, abs_parts m)

pub alt_nearest : (f : ℕ) → Nearest 375 (pos f) (pos (near_alt f))
alt_nearest f = record { close = alt_close f; away = alt_away f }

-- ---- there is one nearest step at most, whatever a step is
-- two nearest steps are as near and as far from zero; were they n and -n, zero would be nearer
module _ (k : ℕ) (f : ℤ) where
  two : (a : ℕ) → 0 < k → k ≤ k * suc a
  two a h = omega arith

  same_parts : (n m : ℤ) → 0 < k → dist k n f ≡ dist k m f → dist k n f ≤ dist k (pos 0) f → dist k m f ≤ dist k (pos 0) f → nat_abs n ≡ nat_abs m → up n + dn m ≡ up m + dn n
  same_parts (pos a) (pos b) p u w z e = omega arith
  same_parts (pos a) (negsuc b) p u w z e =
      let e' : a ≡ suc b = e in
      absurd (omega (arith, apart k (pos a) f, apart k (negsuc b) f, apart k (pos 0) f, two b p, ap (λ (x : ℕ). k * x) e'))
  same_parts (negsuc a) (pos b) p u w z e =
      let e' : suc a ≡ b = e in
      absurd (omega (arith, apart k (negsuc a) f, apart k (pos b) f, apart k (pos 0) f, two a p, ap (λ (x : ℕ). k * x) e'))
  same_parts (negsuc a) (negsuc b) p u w z e = omega arith

  pub nearest_only : (n m : ℤ) → 0 < k → Nearest k f n → Nearest k f m → n ≡ m
  nearest_only n m h p q = from_parts n m (same_parts n m h as_near (p.close (pos 0)) (q.close (pos 0)) as_far)
    where
      as_near : dist k n f ≡ dist k m f
      as_near = omega (arith, p.close m, q.close n)

      as_far : nat_abs n ≡ nat_abs m
      as_far = omega (arith, p.away m (sym as_near), q.away n as_near)

-- so a step is the nearest just where it is `near`
pub nearest_is : (f n : ℤ) → Nearest 750 f n → n ≡ near f
nearest_is f n p = nearest_only 750 f n (near f) (omega arith) p (near_nearest f)

-- ---- what `altitude` answers: never 0, never over 511

module _ (f : ℤ) (n : AltSteps) (e : height_of f ≡ Ok n) where
  answered_at : (altitude_of f ≤ 511) × (altitude_of f ≡ n.0)
  unfolding height_of height_refusal
  answered_at =
      let q = answer_is (record { 0 = altitude_of f }) (height_refusal f) n e in
      let low = leb-true _ _ (success_passed (height_checks f) refl q.0).0 in
      (omega arith, cc)

  pub height_range : (1 ≤ n.0) × (n.0 ≤ 511)
  unfolding altitude_of near_alt
  height_range = go (le_z f (pos 375)) refl answered_at.0 answered_at.1
    where
      go : (a : Bool) → le_z f (pos 375) ≡ a → pick a 1 (near_alt (nat_abs f)) ≤ 511 → pick a 1 (near_alt (nat_abs f)) ≡ n.0 → (1 ≤ n.0) × (n.0 ≤ 511)
      go true p l z = (omega arith, omega arith)
      go false p l z = (omega (arith, le_false f (pos 375) p, abs_parts f, side f), omega arith)

-- ---- each answer of `altitude`, exactly

module _ (f : ℤ) where
  pub height_low : le_z f (pos 375) ≡ true → height_of f ≡ Ok (record { 0 = 1 })
  unfolding height_of height_refusal altitude_of
  height_low p = rw p

  module _ (p : le_z f (pos 375) ≡ false) (n : ℕ) (nearest : Nearest 375 f (pos n)) where
    near_is : altitude_of f ≡ n
    unfolding altitude_of
    near_is =
        let above : pos (nat_abs f) ≡ f = from_parts (pos (nat_abs f)) f (omega (arith, le_false f (pos 375) p, abs_parts f, side f)) in
        let mine : Nearest 375 f (pos (near_alt (nat_abs f))) = subst (λ (z : ℤ). Nearest 375 z (pos (near_alt (nat_abs f)))) above (alt_nearest (nat_abs f)) in
        rw p (ap nat_abs (nearest_only 375 f (pos (near_alt (nat_abs f))) (pos n) (omega arith) mine nearest))

    taken : n ≤ 511 → height_of f ≡ Ok (record { 0 = n })
    unfolding height_of height_refusal
    taken h = rw (near_is, le-leb n 511 h)

    refused : 511 < n → height_of f ≡ Err (numbered out_of_range)
    unfolding height_of height_refusal
    refused h = rw (near_is, lt-leb n 511 h)

    pub height_exactly : (height_of f ≡ Ok (record { 0 = n })) ↔ (n ≤ 511)
    height_exactly = (λ e. (height_range f (record { 0 = n }) e).1, taken)

    pub too_high_exactly : (height_of f ≡ Err (numbered out_of_range)) ↔ (511 < n)
    too_high_exactly = (λ e. by_lt 511 n (λ h. h) (λ h. let q : Ok (record { 0 = n }) ≡ Err (numbered out_of_range) = sym (taken h) ∙ e in zero_one (cc)), refused)
