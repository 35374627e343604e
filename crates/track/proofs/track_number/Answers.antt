-- `track::track_number` meets its contract. Assumes nothing.
use mathlib.Core.Path.{ap₂, ◌∙◌}
use native.Mathlib.Omega.{arith}
use Rattle.std.specs.Option.{ok_or}
use Rattle.track.proofs.TextLaws.{not_five, told, refused}
use Rattle.track.proofs.track_number.Goals as goal

pub returns-then-text-ne5 : goal.returns-then-text-ne5
returns-then-text-ne5 c = refused _ c.of.ensures (λ q. omega arith) (not_five _ c.if-text-ne5.true)

pub returns : goal.returns
returns c = c.ok_or.ensures.value ∙ ap₂ ok_or c.number_of.ensures c.of-2.ensures ∙ told c.args.text.now c.if-text-ne5.false
