-- `layout::pack`: nothing is wrong with the values passed, and they are packed. Assumes nothing.
use Rattle.layout.specs.Rules.{packed_of}
use Rattle.layout.proofs.RuleLaws.{Packing}
use Rattle.layout.proofs.pack.Given as goal

abbrev pub invariant-loop-slot : goal.invariant-loop-slot
invariant-loop-slot l = Packing (packed_of l.word l.low l.slots l.values) l.packed l.slot-iterator.a.rest.now l.slot-iterator.b.rest.now l.at
