-- `words::check_octet` meets its contract. The loop's invariant: the number holds the check bits passed. Assumes nothing.
use mathlib.Core.List.{List}
use mathlib.Core.Path.{◌≡◌}
use Prim.Native.Nat.{ℕ, ◌+◌, ◌-◌, ◌%◌}
use Rattle.bits.specs.Numbers.{num_of}
use Rattle.bits.specs.Octets.{bit_at}
use Rattle.frame.specs.Frame.{column_of}
use Rattle.words.proofs.check_octet.Given as goal

-- the bit of weight 2 ^ i among the check bits
abbrev pub check_at : List ℕ → ℕ → ℕ
check_at s i = (column_of (bit_at s) (6 - i) + 1) % 2

abbrev pub invariant-loop-i : goal.invariant-loop-i
invariant-loop-i l = l.checks ≡ num_of (check_at l.image) l.i
