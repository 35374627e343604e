-- `image_lines::put_last` meets its contract. Assumes nothing.
use Rattle.image_lines.specs.ImageLines.{last_line}
use Rattle.text.proofs.AddsLaws.{adds_adds}
use Rattle.image_lines.proofs.put_last.Goals as goal

pub returns-clause-added : goal.returns-clause-added
unfolding last_line
returns-clause-added c = adds_adds c.put.ensures c.put_row.ensures.added
