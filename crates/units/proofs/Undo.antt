-- A move by offsets with the sum d and then by one offset of -d gives back the position, unless d is an odd multiple of 375. Assumes
-- nothing.
use mathlib.Core.Path.{◌≡◌, ap, ◌∙◌}
use mathlib.Core.Bool.{true}
use mathlib.Core.List.{List, [], ◌∷◌}
use Prim.Native.Nat.{ℕ, zero, suc, ◌+◌, ◌-◌, ◌*◌, min, ◌≤◌, ◌<◌}
use native.Mathlib.Omega.{arith}
use lib.IntN.{ℤ, pos, negsuc, neg_ℤ, nat_abs, ◌+ℤ◌, ◌*ℤ◌, +ℤ_idr}
use Rattle.units.specs.Offsets.{is_offset, sum_z}
use Rattle.units.specs.Steps.{near, nearest_to, is_step}
use Rattle.units.specs.Nearest.{dist, OddMultiple}
use Rattle.units.proofs.Parts.{up, dn, side, abs_parts, from_parts, add_parts, neg_parts, mul_parts}
use Rattle.units.proofs.Ranges.{within_parts, within_by}
use Rattle.units.proofs.Rounding.{near_parts}
use Rattle.units.proofs.Nearest.{apart, near_within}

-- a position moved by a list
abbrev pub moved_to : ℤ → List ℤ → ℤ
moved_to old xs = nearest_to old (sum_z xs)

-- less than half a step away: that is the nearest
pub near_strict : (f n : ℤ) → dist 750 n f < 375 → near f ≡ n
near_strict f n h = from_parts (near f) n (omega (arith, apart 750 n f, near_parts f, side f, side n))

-- a move that leads just between two steps
odd : (d : ℤ) (h l a b : ℕ) → h + l ≡ 375 → min h l ≡ 0 → up d + 750 * a + h ≡ dn d + 750 * b + l → OddMultiple d
odd (pos n) zero l a b e m g = (b - a, omega arith)
odd (pos n) (suc h) l a b e m g = (b - suc a, omega arith)
odd (negsuc n) zero l a b e m g = (a - suc b, omega arith)
odd (negsuc n) (suc h) l a b e m g = (a - b, omega arith)

module _ (o d : ℤ) where
  half : dist 750 (near (pos 750 *ℤ o +ℤ d)) (pos 750 *ℤ o +ℤ d) ≡ 375 → OddMultiple d
  half e =
      let x = apart 750 (near (pos 750 *ℤ o +ℤ d)) (pos 750 *ℤ o +ℤ d) in
      let n = near (pos 750 *ℤ o +ℤ d) in
      odd d x.h x.l (dn n + up o) (up n + dn o) (omega (arith, x.is)) x.one
      (omega (arith, x.gap, add_parts (pos 750 *ℤ o) d, mul_parts 750 o))

  pub near_undone : (OddMultiple d → ⊥) → near (pos 750 *ℤ near (pos 750 *ℤ o +ℤ d) +ℤ neg_ℤ d) ≡ o
  near_undone even =
      let n = near (pos 750 *ℤ o +ℤ d) in
      let s : dist 750 n (pos 750 *ℤ o +ℤ d) < 375 = omega (arith, near_within (pos 750 *ℤ o +ℤ d), not_half) in
      near_strict (pos 750 *ℤ n +ℤ neg_ℤ d) o
      (omega (
        arith,
        s,
        apart 750 n (pos 750 *ℤ o +ℤ d),
        apart 750 o (pos 750 *ℤ n +ℤ neg_ℤ d),
        add_parts (pos 750 *ℤ o) d,
        add_parts (pos 750 *ℤ n) (neg_ℤ d),
        neg_parts d,
        mul_parts 750 o,
        mul_parts 750 n,
      ))
    where
      not_half : dist 750 (near (pos 750 *ℤ o +ℤ d)) (pos 750 *ℤ o +ℤ d) ≡ 375 → ⊥
      not_half e = even (half e)

-- a position that is moved by a list and then by one offset that takes its sum back
pub moved_back : (old : ℤ) (xs : List ℤ) → (OddMultiple (sum_z xs) → ⊥) → moved_to (moved_to old xs) (neg_ℤ (sum_z xs) ∷ []) ≡ old
unfolding sum_z
moved_back old xs even =
    ap (λ (z : ℤ). near (pos 750 *ℤ moved_to old xs +ℤ z)) (+ℤ_idr (neg_ℤ (sum_z xs))) ∙ near_undone old (sum_z xs) even

-- an empty list changes nothing
pub not_moved : (old : ℤ) → moved_to old [] ≡ old
unfolding sum_z
not_moved old = near_strict (pos 750 *ℤ old +ℤ pos 0) old (omega (arith, apart 750 old (pos 750 *ℤ old +ℤ pos 0), add_parts (pos 750 *ℤ old) (pos 0), mul_parts 750 old))

-- ---- whether one offset can take a sum back

pub offset_back : (d : ℤ) → nat_abs d ≤ 6144000 → is_offset (neg_ℤ d) ≡ true
offset_back d h = within_by (negsuc 6143999) (pos 6144000) (neg_ℤ d) (omega (arith, abs_parts d, neg_parts d)) (omega (arith, abs_parts d, neg_parts d))

pub too_far_back : (d : ℤ) → 6144000 < nat_abs d → is_offset (neg_ℤ d) ≡ true → ⊥
too_far_back d h e = omega (arith, abs_parts d, neg_parts d, side d, within_parts (negsuc 6143999) (pos 6144000) (neg_ℤ d) e)

-- from one step of the link to another it can: there are 8,191 steps between them at most
pub never_far : (old : ℤ) (xs : List ℤ) → is_step old ≡ true → is_step (moved_to old xs) ≡ true → nat_abs (sum_z xs) ≤ 6144000
never_far old xs p q =
    let f = pos 750 *ℤ old +ℤ sum_z xs in
    omega (
      arith,
      within_parts (negsuc 4095) (pos 4095) old p,
      within_parts (negsuc 4095) (pos 4095) (near f) q,
      near_parts f,
      side f,
      side old,
      side (sum_z xs),
      add_parts (pos 750 *ℤ old) (sum_z xs),
      mul_parts 750 old,
      abs_parts (sum_z xs),
    )
