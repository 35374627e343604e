-- `tables::layout` meets its contract: each table with a code that is not used is computed to be its layout's. Assumes nothing.
use Rattle.bits.specs.Numbers.{num_of}
use Rattle.tables.proofs.layout.Goals as goal

pub returns-in-S3 : goal.returns-in-S3
unfolding num_of
returns-in-S3 c = rw c.in-S3.is

pub returns-in-S5 : goal.returns-in-S5
unfolding num_of
returns-in-S5 c = rw c.in-S5.is

pub returns-in-S6 : goal.returns-in-S6
unfolding num_of
returns-in-S6 c = rw c.in-S6.is
