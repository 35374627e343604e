-- `units::add_up` meets its contract. Assumes nothing.
use Rattle.units.proofs.Sums.{Summing}
use Rattle.units.proofs.add_up.Given as goal

abbrev pub invariant-loop-offset : goal.invariant-loop-offset
invariant-loop-offset l = Summing l.offsets l.offset-index l.sum.0
