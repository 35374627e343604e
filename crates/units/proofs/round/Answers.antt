-- `units::round` meets its contract. Assumes nothing.
use lib.Dec.{lit<}
use mir.Facts.{to_z-of_z}
use Rattle.units.proofs.Rounding.{less_fits, more_fits, quot_fits, near_less, near_more}
use Rattle.units.proofs.round.Goals as goal

pub overflow_sub-result : goal.overflow_sub-result
overflow_sub-result c =
    let f = c.ranges.exact in
    simp to_z-of_z (less_fits c.args.exact c.requires)

pub nonzero_div-result : goal.nonzero_div-result
nonzero_div-result c =
    let f = c.ranges.exact in
    let d = less_fits c.args.exact c.requires in
    simp to_z-of_z (lit< tt, quot_fits _ d)

pub overflow_add-result : goal.overflow_add-result
overflow_add-result c =
    let f = c.ranges.exact in
    simp to_z-of_z (more_fits c.args.exact c.requires)

pub nonzero_div-result-else-exact-lt0 : goal.nonzero_div-result-else-exact-lt0
nonzero_div-result-else-exact-lt0 c =
    let f = c.ranges.exact in
    let d = more_fits c.args.exact c.requires in
    simp to_z-of_z (lit< tt, quot_fits _ d)

pub returns-then-exact-lt0 : goal.returns-then-exact-lt0
returns-then-exact-lt0 c =
    let f = c.ranges.exact in
    let d = less_fits c.args.exact c.requires in
    let q = quot_fits _ d in
    simp to_z-of_z (near_less c.args.exact (simp to_z-of_z at c.if-exact-lt0.true))

pub returns-else-exact-lt0 : goal.returns-else-exact-lt0
returns-else-exact-lt0 c =
    let f = c.ranges.exact in
    let d = more_fits c.args.exact c.requires in
    let q = quot_fits _ d in
    simp to_z-of_z (near_more c.args.exact (simp to_z-of_z at c.if-exact-lt0.false))
