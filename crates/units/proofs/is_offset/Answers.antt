-- `units::is_offset` meets its contract. Assumes nothing.
use mathlib.Core.Path.{◌∙◌}
use Rattle.units.proofs.Ranges.{contains_is}
use Rattle.units.proofs.is_offset.Goals as goal

pub returns : goal.returns
returns c = c.contains.ensures.value ∙ contains_is _ _ _ _ c.new.ensures.start c.new.ensures.end c.new.ensures.exhausted
