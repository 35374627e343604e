-- `units::altitude` meets its contract. Assumes nothing.
use borrow.Author.Tests.{lt-leb, le-leb}
use mir.Syntax.{w32}
use mir.Val.{SFits}
use mir.Facts.{to_z-of_z}
use Rattle.std.proofs.Common.{rules}
use Rattle.units.specs.Heights.{height_of, height_refusal, altitude_of, near_alt}
use Rattle.units.proofs.altitude.Goals as goal

pub returns-then-f-le375 : goal.returns-then-f-le375
unfolding height_of height_refusal altitude_of
returns-then-f-le375 c =
    let f : SFits w32 c.args.feet.0 = search rules in
    simp (simp to_z-of_z at c.if-f-le375.true)

pub returns-then-steps-gt511 : goal.returns-then-steps-gt511
unfolding height_of height_refusal altitude_of near_alt
returns-then-steps-gt511 c =
    let f : SFits w32 c.args.feet.0 = search rules in
    let e = simp to_z-of_z at c.if-f-le375.false in
    simp (c.of.ensures, e, lt-leb _ _ (simp to_z-of_z at c.if-steps-gt511.true))

pub returns : goal.returns
unfolding height_of height_refusal altitude_of near_alt
returns c =
    let f : SFits w32 c.args.feet.0 = search rules in
    let e = simp to_z-of_z at c.if-f-le375.false in
    simp (to_z-of_z, e, le-leb _ _ (simp to_z-of_z at c.if-steps-gt511.false))
