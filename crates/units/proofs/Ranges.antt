-- What the tests of the code say of the ranges of the paper. Assumes nothing.
use mathlib.Core.Path.{◌≡◌, refl, sym, ap, ◌∙◌}
use mathlib.Core.Bool.{Bool, true, false, not}
use Prim.Native.Nat.{◌+◌, ◌≤◌, ◌<◌}
use native.Mathlib.Omega.{arith}
use borrow.Author.Tests.{le-leb, leb-true}
use lib.IntN.{ℤ, pos, negsuc}
use lib.Signed.{mag, le_z, lt_z}
use mir.Syntax.{w16}
use mir.Val.{SFits}
use Rattle.std.specs.Prelude.{Option, Some, None}
use Rattle.std.specs.Ordering.{partial_le, int_cmp}
use Rattle.std.specs.Range.{range_inclusive_start, range_inclusive_end, range_inclusive_exhausted, range_inclusive_contains}
use Rattle.std.specs.declared.ops.RangeInclusive.{RangeInclusive}
use Rattle.std.proofs.lemmas.Int.{ints}
use Rattle.bits.specs.Tests.{pick, both}
use Rattle.units.specs.Offsets.{within}
use Rattle.units.specs.Steps.{nearest_to, is_step, moved_by}
use Rattle.units.specs.declared.LinkSteps.{LinkSteps}
use Rattle.bits.proofs.TestLaws.{never_true, zero_one, both_true}
use Rattle.units.proofs.Parts.{up, dn, le_is, le_true, lt_true, sfits, side}

module _ (lo hi z : ℤ) where
  -- from the lower end on, the test of the upper end decides
  pub within_from : lt_z z lo ≡ false → within lo hi z ≡ le_z z hi
  unfolding within
  within_from e = ap (λ (b : Bool). both b (le_z z hi)) (le_is lo z ∙ ap not e)

  pub within_yes : lt_z z lo ≡ false → lt_z hi z ≡ false → within lo hi z ≡ true
  within_yes e f = within_from e ∙ le_is z hi ∙ ap not f

  pub within_parts : within lo hi z ≡ true → (up lo + dn z ≤ up z + dn lo) × (up z + dn hi ≤ up hi + dn z)
  unfolding within
  within_parts e = let p = both_true e in (le_true lo z p.0, le_true z hi p.1)

  pub within_by : up lo + dn z ≤ up z + dn lo → up z + dn hi ≤ up hi + dn z → within lo hi z ≡ true
  within_by h l = within_yes (never_true (lt_z z lo) (λ t. omega (arith, lt_true z lo t))) (never_true (lt_z hi z) (λ t. omega (arith, lt_true hi z t)))

-- ---- a range's `contains`

as_le : (x y : ℤ) → partial_le (λ (a b : ℤ). Some (int_cmp a b)) x y ≡ le_z x y
as_le x y = grind (arith, ints)

module _ (r : RangeInclusive ℤ) (lo hi z : ℤ) where
  pub contains_is : range_inclusive_start r ≡ lo → range_inclusive_end r ≡ hi → range_inclusive_exhausted r ≡ false
      → range_inclusive_contains (λ (a b : ℤ). Some (int_cmp a b)) r z ≡ within lo hi z
  unfolding within
  contains_is e f g = simp (e, f, g, as_le)

-- ---- a move, by the tests of its steps

module _ (old feet : ℤ) where
  abbrev n : ℤ
  n = nearest_to old feet

  pub moved_as : (b : Bool) → is_step n ≡ b → pick b (Some (record { 0 = n })) None ≡ moved_by old feet
  unfolding moved_by
  moved_as b e = sym (ap (λ (t : Bool). pick t (Some (record { 0 = n })) None) e)

  -- what a move that is answered says of the tests
  pub moved_is : (p : LinkSteps) → moved_by old feet ≡ Some p → (is_step n ≡ true) × (p ≡ record { 0 = n })
  unfolding moved_by
  moved_is p = go (is_step n)
    where
      go : (b : Bool) → pick b (Some (record { 0 = n })) None ≡ Some p → (b ≡ true) × (p ≡ record { 0 = n })
      go true e = (refl, cc)
      go false e = zero_one (cc)

  pub moved_not : moved_by old feet ≡ None → is_step n ≡ false
  unfolding moved_by
  moved_not = go (is_step n)
    where
      go : (b : Bool) → pick {A = Option LinkSteps} b (Some (record { 0 = n })) None ≡ None → b ≡ false
      go true e = zero_one (cc)
      go false e = refl

pub step_fits : (n : ℤ) → is_step n ≡ true → SFits w16 n
step_fits n e = sfits w16 n (omega (arith, within_parts (negsuc 4095) (pos 4095) n e, side n))

-- a step is what twelve bits and a sign hold
pub mag_step : (z : ℤ) → mag z < 4096 → is_step z ≡ true
unfolding within
mag_step (pos n) h = le-leb n 4095 (omega arith)
mag_step (negsuc n) h = ap (λ (t : Bool). both t true) (le-leb n 4095 (omega arith))

pub step_mag : (z : ℤ) → is_step z ≡ true → mag z < 4096
unfolding within
step_mag (pos n) e = omega (arith, leb-true n 4095 e)
step_mag (negsuc n) e = omega (arith, leb-true n 4095 (both_true e).0)
