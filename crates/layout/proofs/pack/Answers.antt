-- `layout::pack` meets its contract. Assumes nothing.
use Rattle.std.proofs.Common.{rules, sym}
use Rattle.layout.proofs.RuleLaws.{packing_more, packing_bad, packing_done}
use Rattle.layout.proofs.pack.Goals as goal

pub returns-in_err-check_value : goal.returns-in_err-check_value
returns-in_err-check_value c = let bad = packing_bad c.loop-slot.invariant c.in-Some.ensures.steps.0 c.in-Some.ensures.steps.1 {t = c.in_err-check_value.field-0.0} in search rules

pub loop-slot-preserved : goal.loop-slot-preserved
loop-slot-preserved c = let more = packing_more c.loop-slot.invariant c.in-Some.ensures.steps.0 c.in-Some.ensures.steps.1 in search rules

pub returns : goal.returns
returns c = sym (packing_done c.loop-slot.invariant (search rules))
