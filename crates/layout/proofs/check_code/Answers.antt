-- `layout::check_code` meets its contract: no number of 64 bits has a one above bit 63. Assumes nothing.
use mathlib.Core.Path.{◌≡◌, ap}
use Prim.Native.Nat.{ℕ, ◌/◌, ◌%◌, ◌^◌, ◌<◌}
use native.Mathlib.Nat.{div-eq_of_lt, lt_of_lt_of_le}
use native.Mathlib.Omega.{arith}
use borrow.Author.Tests.{eq-eqb}
use lib.Pow.{pow_mono}
use Rattle.layout.proofs.check_code.Goals as goal

none : (unused n : ℕ) → unused < 2 ^ 64 → 63 < n → unused / 2 ^ n % 2 ≡ 0
none unused n h l = ap (λ (x : ℕ). x % 2) (div-eq_of_lt (lt_of_lt_of_le h (pow_mono {i = 64} {j = n} (omega arith))))

pub returns-then-n-gt63 : goal.returns-then-n-gt63
returns-then-n-gt63 c = let a = c.args in rw (eq-eqb _ 0 (none a.unused a.n (omega (arith, c.ranges.unused.fits)) c.if-n-gt63.true))
