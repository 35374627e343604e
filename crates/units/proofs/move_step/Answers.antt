-- `units::move_step` meets its contract. Assumes nothing.
use mathlib.Core.Path.{◌≡◌, sym, ap, ◌∙◌}
use mathlib.Core.Bool.{true, false}
use native.Mathlib.Omega.{arith}
use mir.Syntax.{w64}
use mir.Val.{SFits}
use mir.Facts.{to_z-of_z}
use Rattle.std.proofs.lemmas.Int.{ints}
use Rattle.units.specs.Steps.{nearest_to, near, is_step}
use Rattle.units.proofs.Ranges.{contains_is, moved_as, step_fits}
use Rattle.units.proofs.move_step.Goals as goal
use Rattle.units.proofs.move_step.Goals.{After-round-n, After-contains}

near_is : (c : After-round-n) → c.round-n.result ≡ nearest_to c.args.old.0 c.args.by.0
near_is c = c.round-n.ensures ∙ ap near (omega (arith, ints))

ok : (c : After-round-n) → SFits w64 c.round-n.result
ok c = record { sfits = c.round-n.type_inv }

-- the range's test is that of a step
tested : (c : After-contains) → c.contains.result ≡ is_step c.round-n.result
tested c =
    let n : SFits w64 c.round-n.result = record { sfits = c.round-n.type_inv } in
    simp to_z-of_z at c.contains.ensures.value ∙ contains_is _ _ _ _ c.new.ensures.start c.new.ensures.end c.new.ensures.exhausted

pub returns-then-contains : goal.returns-then-contains
returns-then-contains c =
    let n = ok (goal.at.returns-then-contains c).After-round-n in
    let e = near_is (goal.at.returns-then-contains c).After-round-n in
    let t = sym (tested (goal.at.returns-then-contains c).After-contains) ∙ c.if-contains.true in
    let f = step_fits c.round-n.result t in
    simp to_z-of_z (rw e (moved_as c.args.old.0 c.args.by.0 true (ap is_step (sym e) ∙ t)))

pub returns-else-contains : goal.returns-else-contains
returns-else-contains c =
    let e = near_is (goal.at.returns-else-contains c).After-round-n in
    let t = sym (tested (goal.at.returns-else-contains c).After-contains) ∙ c.if-contains.false in
    moved_as c.args.old.0 c.args.by.0 false (ap is_step (sym e) ∙ t)
