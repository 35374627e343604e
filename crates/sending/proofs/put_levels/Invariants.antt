-- `sending::put_levels` meets its contract. The loop's invariant: the levels passed tell the bits passed. Assumes nothing.
use Rattle.line.specs.Sending.{image_bits}
use Rattle.line.proofs.SendingLaws.{Sending}
use Rattle.sending.proofs.put_levels.Given as goal

abbrev pub invariant-loop-i : goal.invariant-loop-i
invariant-loop-i l = Sending (image_bits l.image) l.previous l.levels l.level l.i
