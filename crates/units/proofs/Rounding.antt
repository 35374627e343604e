-- The rounding to link steps: by its parts; as the code computes it; as the paper words it. Assumes nothing.
use mathlib.Core.Path.{◌≡◌, refl}
use mathlib.Core.Bool.{true, false}
use Prim.Native.Nat.{suc, ◌+◌, ◌/◌, ◌^◌, ◌<◌}
use native.Mathlib.Omega.{arith}
use lib.IntN.{ℤ, pos, negsuc, ◌+ℤ◌, ◌-ℤ◌}
use lib.Signed.{mag, lt_z, quot_z}
use mir.Syntax.{w64}
use mir.Val.{SFits}
use Rattle.units.specs.Steps.{near}
use Rattle.units.proofs.Parts.{up, dn, side, from_parts, add_parts, neg_parts, add_le, quot_parts, quot_le, mag_parts, sfits, lt_true, lt_false}

pub near_parts : (f : ℤ) → (up (near f) ≡ (up f + 375) / 750) × (dn (near f) ≡ (dn f + 375) / 750)
unfolding near
near_parts (pos n) = (refl, refl)
near_parts (negsuc n) = ((neg_parts (pos ((suc n + 375) / 750))).0, (neg_parts (pos ((suc n + 375) / 750))).1)

-- ---- as the code computes it

module _ (f : ℤ) (h : mag f < 2 ^ 40) where
  pub less_fits : SFits w64 (f -ℤ pos 375)
  less_fits = sfits w64 (f +ℤ negsuc 374) (omega (arith, add_le f (negsuc 374), mag_parts f h))

  pub more_fits : SFits w64 (f +ℤ pos 375)
  more_fits = sfits w64 (f +ℤ pos 375) (omega (arith, add_le f (pos 375), mag_parts f h))

pub quot_fits : (z : ℤ) → SFits w64 z → SFits w64 (quot_z z (pos 750))
quot_fits z h = sfits w64 (quot_z z (pos 750)) (omega (arith, quot_le 750 z, mag_parts z h.sfits))

pub near_less : (f : ℤ) → lt_z f (pos 0) ≡ true → quot_z (f -ℤ pos 375) (pos 750) ≡ near f
near_less f e =
    from_parts _ _
    (omega (arith, near_parts f, quot_parts 750 (f +ℤ negsuc 374), add_parts f (negsuc 374), side f, side (f +ℤ negsuc 374), lt_true f (pos 0) e))

pub near_more : (f : ℤ) → lt_z f (pos 0) ≡ false → quot_z (f +ℤ pos 375) (pos 750) ≡ near f
near_more f e =
    from_parts _ _
    (omega (arith, near_parts f, quot_parts 750 (f +ℤ pos 375), add_parts f (pos 375), side f, side (f +ℤ pos 375), lt_false f (pos 0) e))
