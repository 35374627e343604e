-- `layout::lowest` meets its contract. Assumes nothing.
use lib.Count.{trailing_le}
use Rattle.layout.proofs.LowestLaws.{zeros_agreeing}
use Rattle.layout.proofs.lowest.Goals as goal

pub returns : goal.returns
returns c = (zeros_agreeing 64 c.args.n c.args.x, trailing_le 64 _)
