-- `layout::find_trouble`: nothing is wrong with the fields passed. Assumes nothing.
use Rattle.layout.specs.Rules.{ruled}
use Rattle.layout.proofs.RuleLaws.{Ruling}
use Rattle.layout.proofs.find_trouble.Given as goal

abbrev pub invariant-loop-slot : goal.invariant-loop-slot
invariant-loop-slot l = Ruling (ruled l.low l.slots l.word) l.word l.slots l.at l.slot-index
