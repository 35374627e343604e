-- ℤ for `omega`: an integer z by its two parts, up z - dn z, of which one is 0. Each operation and each test of ℤ is a linear fact of the
-- parts. Assumes nothing.
use mathlib.Core.Path.{◌≡◌, refl, sym, ap, ◌∙◌}
use mathlib.Core.Bool.{Bool, true, false, not, cond}
use Prim.Native.Nat.{ℕ, zero, suc, ◌+◌, ◌-◌, ◌*◌, ◌/◌, ◌^◌, min, ◌≤◌, ◌<◌}
use native.Mathlib.Omega.{arith}
use native.Mathlib.Nat.{zero-div, div-le_self}
use lib.Dec.{T, ltb, leb→le, ltb→lt, nltb→le}
use lib.IntN.{ℤ, pos, negsuc, neg_ℤ, nat_abs, sub_ℕ, ◌+ℤ◌, ◌*ℤ◌}
use lib.Signed.{mag, le_z, lt_z, quot_z, lt_z_no}
use mir.Syntax.{Width}
use mir.Val.{SFits, hbits}
use Rattle.bits.proofs.TestLaws.{to_t}

abbrev pub up : ℤ → ℕ
up (pos n) = n
up (negsuc n) = 0

abbrev pub dn : ℤ → ℕ
dn (pos n) = 0
dn (negsuc n) = suc n

-- one of the parts is 0; `omega` splits on `min`
pub side : (z : ℤ) → min (up z) (dn z) ≡ 0
side (pos n) = omega arith
side (negsuc n) = omega arith

pub abs_parts : (z : ℤ) → nat_abs z ≡ up z + dn z
abs_parts (pos n) = omega arith
abs_parts (negsuc n) = omega arith

-- two integers with the same difference of parts are one
pub from_parts : (x y : ℤ) → up x + dn y ≡ up y + dn x → x ≡ y
from_parts (pos a) (pos b) h = ap pos (omega arith)
from_parts (pos a) (negsuc b) h = absurd (omega arith)
from_parts (negsuc a) (pos b) h = absurd (omega arith)
from_parts (negsuc a) (negsuc b) h = ap negsuc (omega arith)

-- ---- the operations

cond_ind : (c : Bool) (x y : ℤ) (P : ℤ → Type 0) → (T c → P x) → (T (not c) → P y) → P (cond c x y)
cond_ind true x y P f g = f tt
cond_ind false x y P f g = g tt

pub sub_parts : (a b : ℕ) → up (sub_ℕ a b) + b ≡ a + dn (sub_ℕ a b)
sub_parts a b = cond_ind (ltb a b) (negsuc (b - suc a)) (pos (a - b)) (λ z. up z + b ≡ a + dn z) (λ t. less (ltb→lt a b t)) (λ t. more (nltb→le a b t))
  where
    less : a < b → 0 + b ≡ a + suc (b - suc a)
    less h = omega arith

    more : b ≤ a → (a - b) + b ≡ a + 0
    more h = omega arith

pub add_parts : (x y : ℤ) → up (x +ℤ y) + (dn x + dn y) ≡ (up x + up y) + dn (x +ℤ y)
add_parts (pos a) (pos b) = omega arith
add_parts (pos a) (negsuc b) = omega (arith, sub_parts a (suc b))
add_parts (negsuc a) (pos b) = omega (arith, sub_parts b (suc a))
add_parts (negsuc a) (negsuc b) = omega arith

pub neg_parts : (z : ℤ) → (up (neg_ℤ z) ≡ dn z) × (dn (neg_ℤ z) ≡ up z)
neg_parts (pos zero) = (refl, refl)
neg_parts (pos (suc n)) = (refl, refl)
neg_parts (negsuc n) = (refl, refl)

pub mul_parts : (k : ℕ) (z : ℤ) → (up (pos k *ℤ z) ≡ k * up z) × (dn (pos k *ℤ z) ≡ k * dn z)
mul_parts k (pos n) = (refl, omega arith)
mul_parts k (negsuc n) = ((neg_parts (pos (k * suc n))).0 ∙ omega arith, (neg_parts (pos (k * suc n))).1)

-- ---- the tests

pub le_parts : (x y : ℤ) → T (le_z x y) → up x + dn y ≤ up y + dn x
le_parts (pos a) (pos b) t = omega (arith, leb→le a b t)
le_parts (pos a) (negsuc b) t = absurd t
le_parts (negsuc a) (pos b) t = omega arith
le_parts (negsuc a) (negsuc b) t = omega (arith, leb→le b a t)

pub lt_parts : (x y : ℤ) → T (lt_z x y) → up x + dn y < up y + dn x
lt_parts (pos a) (pos b) t = omega (arith, ltb→lt a b t)
lt_parts (pos a) (negsuc b) t = absurd t
lt_parts (negsuc a) (pos b) t = omega arith
lt_parts (negsuc a) (negsuc b) t = omega (arith, ltb→lt b a t)

-- ---- the range of a width

pub mag_parts : (z : ℤ) {H : ℕ} → mag z < H → (up z < H) × (dn z ≤ H)
mag_parts (pos n) h = omega arith
mag_parts (negsuc n) h = omega arith

pub parts_mag : (z : ℤ) {H : ℕ} → (up z < H) × (dn z ≤ H) → mag z < H
parts_mag (pos n) h = h.0
parts_mag (negsuc n) h = h.1

pub sfits : (w : Width) (z : ℤ) → (up z < 2 ^ hbits w) × (dn z ≤ 2 ^ hbits w) → SFits w z
sfits w z h = record { sfits = parts_mag z h }

-- ---- a test's flag, as a branch leaves it

by_not : (a b : Bool) → (T a → T b → ⊥) → (T (not b) → T a) → a ≡ not b
by_not true true f g = absurd (f tt tt)
by_not true false f g = refl
by_not false true f g = refl
by_not false false f g = absurd (g tt)

-- the two orders are each other's negation, so a test by one is the test by the other
pub le_is : (x y : ℤ) → le_z x y ≡ not (lt_z y x)
le_is x y = by_not (le_z x y) (lt_z y x) (λ p q. clash (le_parts x y p) (lt_parts y x q)) (λ t. (lt_z_no {a = y} {b = x} t).le)
  where
    clash : up x + dn y ≤ up y + dn x → up y + dn x < up x + dn y → ⊥
    clash h k = omega arith

pub lt_true : (x y : ℤ) → lt_z x y ≡ true → up x + dn y < up y + dn x
lt_true x y e = lt_parts x y (to_t e)

pub lt_false : (x y : ℤ) → lt_z x y ≡ false → up y + dn x ≤ up x + dn y
lt_false x y e = le_parts y x (to_t (le_is y x ∙ ap not e))

pub le_true : (x y : ℤ) → le_z x y ≡ true → up x + dn y ≤ up y + dn x
le_true x y e = le_parts x y (to_t e)

pub le_false : (x y : ℤ) → le_z x y ≡ false → up y + dn x < up x + dn y
le_false x y e = lt_parts y x (to_t (flip (lt_z y x) (sym (le_is x y) ∙ e)))
  where
    flip : (b : Bool) → not b ≡ false → b ≡ true
    flip true h = refl
    flip false h = sym h

-- ---- bounds of a sum and of a quotient

pub add_le : (x y : ℤ) → (up (x +ℤ y) ≤ up x + up y) × (dn (x +ℤ y) ≤ dn x + dn y)
add_le x y = omega (arith, add_parts x y, side (x +ℤ y))

pub quot_parts : (k : ℕ) (z : ℤ) → (up (quot_z z (pos k)) ≡ up z / k) × (dn (quot_z z (pos k)) ≡ dn z / k)
quot_parts k (pos n) = (refl, sym (zero-div k))
quot_parts k (negsuc n) = ((neg_parts (pos (suc n / k))).0 ∙ sym (zero-div k), (neg_parts (pos (suc n / k))).1)

pub quot_le : (k : ℕ) (z : ℤ) → (up (quot_z z (pos k)) ≤ up z) × (dn (quot_z z (pos k)) ≤ dn z)
quot_le k z = omega (arith, quot_parts k z, div-le_self (up z) k, div-le_self (dn z) k)
