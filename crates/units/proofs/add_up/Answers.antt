-- `units::add_up` meets its contract. Assumes nothing.
use mathlib.Core.Path.{◌≡◌, sym, ◌∙◌}
use lib.IntN.{pos}
use lib.ListN.{get_or}
use mir.Syntax.{w32}
use mir.Val.{SFits}
use mir.Facts.{to_z-of_z}
use Rattle.std.proofs.Common.{rules}
use Rattle.units.specs.Offsets.{is_offset}
use Rattle.units.proofs.Sums.{bad, sum_fits, next, refused, done}
use Rattle.units.proofs.add_up.Goals as goal
use Rattle.units.proofs.add_up.Goals.{After-is_offset}

-- the offset that was read, and what `is_offset` said of it
fits : (c : After-is_offset) → SFits w32 (get_or c.args.offsets.now c.loop-offset.offset-index (pos 0))
fits c = search rules

said : (c : After-is_offset) → is_offset (get_or c.args.offsets.now c.loop-offset.offset-index (pos 0)) ≡ c.is_offset.result
said c =
    let x = fits c in
    sym (simp to_z-of_z at c.is_offset.ensures)

pub returns-then-not-is_offset : goal.returns-then-not-is_offset
returns-then-not-is_offset c =
    let no = said (goal.at.returns-then-not-is_offset c).After-is_offset ∙ c.if-not-is_offset.true in
    refused _ (bad _ _ _ c.loop-offset.invariant c.loop-offset-test.true no)

pub add-sum-requires : goal.add-sum-requires
add-sum-requires c =
    let x = fits (goal.at.add-sum-requires c).After-is_offset in
    let yes = said (goal.at.add-sum-requires c).After-is_offset ∙ c.if-not-is_offset.false in
    simp to_z-of_z (sum_fits _ _ _ c.loop-offset.invariant c.loop-offset-test.true yes)

pub loop-offset-preserved : goal.loop-offset-preserved
loop-offset-preserved c =
    let x = fits (goal.at.loop-offset-preserved c).After-is_offset in
    let yes = said (goal.at.loop-offset-preserved c).After-is_offset ∙ c.if-not-is_offset.false in
    rw (simp to_z-of_z at c.add-sum.ensures) (next _ _ _ c.loop-offset.invariant c.loop-offset-test.true yes)

pub returns : goal.returns
returns c = done _ _ _ c.loop-offset.invariant c.loop-offset-test.false
