-- `words::mirroring` meets its contract: one computed test of the whole table. Assumes nothing.
use mathlib.Core.Path.{refl}
use Rattle.bits.specs.Numbers.{num_of, tab}
use Rattle.words.proofs.mirroring.Goals as goal

pub returns : goal.returns
unfolding tab num_of
returns c = refl
