-- `parts::octets::gather` meets its contract. Assumes nothing.
use Rattle.std.proofs.Common.{refl, ap, rules, ◌∙◌}
use Rattle.parts.specs.Parts.{parts_left}
use Rattle.parts.proofs.octets.gather.Goals as goal

pub loop-part-init : goal.loop-part-init
loop-part-init c none = (refl, ap parts_left c.into_iter-part-iterator.ensures.into_iter_gives ∙ none)

pub loop-part-preserved : goal.loop-part-preserved
loop-part-preserved c none = let past = c.loop-part.invariant none in let steps = c.in-Some.ensures.steps in search rules

pub returns : goal.returns
returns c none = let past = c.loop-part.invariant none in let found = c.get_mut.ensures.lookup in search rules
