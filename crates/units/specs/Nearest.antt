-- What the nearest step is, in 01's words ('The shift') and by no formula.
use Rattle.std.specs.Prelude.{◌≡◌, ℕ, ◌+◌, ◌*◌, ◌≤◌, ℤ, pos, nat_abs, ◌-ℤ◌, ◌*ℤ◌}

-- how far n steps of k feet are from f feet
unfoldable pub dist : ℕ → ℤ → ℤ → ℕ
dist k n f = nat_abs (pos k *ℤ n -ℤ f)

-- no step of k feet is nearer to f, and of two that are as near n is the one away from zero
pub record Nearest (k : ℕ) (f n : ℤ) : Type 0 where
  pub close : (m : ℤ) → dist k n f ≤ dist k m f
  pub away : (m : ℤ) → dist k m f ≡ dist k n f → nat_abs m ≤ nat_abs n

-- 375, 1125, 1875 and so on, and their negatives
abbrev pub OddMultiple : ℤ → Type 0
OddMultiple d = (k : ℕ) × (nat_abs d ≡ 375 * (2 * k + 1))
