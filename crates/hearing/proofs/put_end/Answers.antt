-- `hearing::put_end` meets its contract. Assumes nothing.
use Rattle.hearing.proofs.HearingLaws.{end_put, end_none}
use Rattle.hearing.proofs.put_end.Goals as goal

pub returns-then-heard : goal.returns-then-heard
returns-then-heard c = end_put c.args.k c.args.heard c.if-heard.true (rw c.from.ensures at c.put_number.ensures.added)

pub returns-else-heard : goal.returns-else-heard
returns-else-heard c = end_none c.args.k c.args.heard _ c.if-heard.false
