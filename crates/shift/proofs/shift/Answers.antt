-- `shift::shift` meets its contract. Assumes nothing.
use Rattle.std.proofs.Common.{◌≡◌, rules, ℕ, ℤ, sym, ap, ◌∙◌, Some, None, Err}
use Rattle.refusal.specs.Refusals.{numbered_at, out_of_range}
use Rattle.units.specs.Steps.{moved_by}
use Rattle.position.specs.Positions.{position_of}
use Rattle.shift.specs.Shift.{shifted_of}
use Rattle.position.specs.declared.Position.{Position}
use Rattle.message.specs.declared.Message.{Message}
use Rattle.refusal.proofs.OkOr.{none_told, some_told}
use Rattle.units.proofs.Ranges.{moved_is, moved_not}
use Rattle.shift.proofs.shift.Goals as goal

-- a result out of range, where the message stands at p
module _ (m : Message) (p : Position) (at : position_of m ≡ Some p) (dx dy : ℤ) (px py : ℕ) where
  x_out : moved_by p.x.0 dx ≡ None → Err (numbered_at out_of_range px) ≡ shifted_of m dx dy px py
  unfolding shifted_of
  x_out n = rw (at, moved_not _ _ n)

  y_out : {x : _} → moved_by p.x.0 dx ≡ Some x → moved_by p.y.0 dy ≡ None → Err (numbered_at out_of_range py) ≡ shifted_of m dx dy px py
  unfolding shifted_of
  y_out e n = rw (at, (moved_is _ _ _ e).0, moved_not _ _ n)

pub returns-in_default : goal.returns-in_default
unfolding shifted_of
returns-in_default c = rw (sym c.find_position.ensures ∙ c.in_default.is)

pub returns-in_err-x : goal.returns-in_err-x
returns-in_err-x c =
    let p = none_told c.move_step.result (sym c.ok_or.ensures.value ∙ c.in_err-x.was) in
    let e = ap Err (sym p.1 ∙ c.at.ensures) ∙ x_out c.args.m c.in-Some.from (sym c.find_position.ensures ∙ c.in-Some.is) c.args.by.x.0 c.args.by.y.0 c.args.px c.args.py (sym c.move_step.ensures ∙ p.0) in
    search rules

pub returns-in_err-y : goal.returns-in_err-y
returns-in_err-y c =
    let x = some_told c.move_step.result _ (sym c.ok_or.ensures.value ∙ c.in_ok-x.was) in
    let p = none_told c.move_step-2.result (sym c.ok_or-2.ensures.value ∙ c.in_err-y.was) in
    let e = ap Err (sym p.1 ∙ c.at-2.ensures) ∙ y_out c.args.m c.in-Some.from (sym c.find_position.ensures ∙ c.in-Some.is) c.args.by.x.0 c.args.by.y.0 c.args.px c.args.py (sym c.move_step.ensures ∙ x) (sym c.move_step-2.ensures ∙ p.0) in
    search rules

pub returns : goal.returns
unfolding shifted_of
returns c =
    let one = moved_is _ _ _ (sym c.move_step.ensures ∙ some_told c.move_step.result _ (sym c.ok_or.ensures.value ∙ c.in_ok-x.was)) in
    let two = moved_is _ _ _ (sym c.move_step-2.ensures ∙ some_told c.move_step-2.result _ (sym c.ok_or-2.ensures.value ∙ c.in_ok-y.was)) in
    rw (sym c.find_position.ensures ∙ c.in-Some.is, one.0, two.0, c.place.ensures, one.1, two.1)
