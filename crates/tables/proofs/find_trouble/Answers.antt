-- `tables::find_trouble` meets its contract. Assumes nothing.
use Rattle.std.proofs.Common.{◌∙◌}
use Rattle.kind.specs.Layouts.{layout_of}
use Rattle.layout.proofs.RuleLaws.{ruled_layout}
use Rattle.kind.proofs.TableLaws.{sound}
use Rattle.tables.proofs.find_trouble.Goals as goal

pub returns : goal.returns
returns c = c.find_trouble.ensures ∙ rw c.layout.ensures (ruled_layout 6 (layout_of c.args.k) c.args.word (sound c.args.k))
