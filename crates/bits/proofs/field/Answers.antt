-- `bits::field` meets its contract. Assumes nothing.
use native.Mathlib.Omega.{arith}
use lib.Bits.{and_mask}
use Rattle.bits.proofs.NumberLaws.{one_shl}
use Rattle.bits.proofs.field.Goals as goal

pub returns : goal.returns
returns c = rw (one_shl c.args.width (omega arith)) (and_mask _ c.args.width)
