-- `shift::add_both` meets its contract. Assumes nothing.
use Rattle.std.specs.Prelude.{Some}
use Rattle.std.proofs.Common.{◌≡◌, rules, true, sym, ap, ◌∙◌, length, leb, None, Err}
use borrow.Author.Tests.{le-leb, lt-leb}
use Rattle.refusal.specs.Refusals.{numbered_at, out_of_range}
use Rattle.units.specs.Offsets.{summed_of}
use Rattle.shift.specs.Shift.{sums_of}
use Rattle.refusal.proofs.OkOr.{none_told, some_told}
use Rattle.units.proofs.Sums.{summed_is, summed_not}
use Rattle.shift.proofs.add_both.Goals as goal
use Rattle.shift.proofs.add_both.Goals.{Else-ys-gt8}

short_xs : (c : Else-ys-gt8) → leb (length c.args.xs.now) 8 ≡ true
short_xs c = le-leb _ _ c.if-xs-gt8.false

short_ys : (c : Else-ys-gt8) → leb (length c.args.ys.now) 8 ≡ true
short_ys c = le-leb _ _ c.if-ys-gt8.false

-- a list whose offsets are out of range
module _ (c : Else-ys-gt8) where
  xs_out : summed_of c.args.xs.now ≡ None → Err (numbered_at out_of_range 1) ≡ sums_of c.args.xs.now c.args.ys.now
  unfolding sums_of
  xs_out n = simp (short_xs c, short_ys c, summed_not _ n)

  ys_out : {dx : _} → summed_of c.args.xs.now ≡ Some dx → summed_of c.args.ys.now ≡ None → Err (numbered_at out_of_range 2) ≡ sums_of c.args.xs.now c.args.ys.now
  unfolding sums_of
  ys_out e n = simp (short_xs c, short_ys c, (summed_is _ _ e).0, summed_not _ n)

pub returns-then-xs-gt8 : goal.returns-then-xs-gt8
unfolding sums_of
returns-then-xs-gt8 c = rw (lt-leb _ _ c.if-xs-gt8.true, c.at.ensures)

pub returns-then-ys-gt8 : goal.returns-then-ys-gt8
unfolding sums_of
returns-then-ys-gt8 c = rw (le-leb _ _ c.if-xs-gt8.false, lt-leb _ _ c.if-ys-gt8.true, c.at-then-ys-gt8.ensures)

pub returns-in_err-x : goal.returns-in_err-x
returns-in_err-x c =
    let p = none_told c.add_up.result (sym c.ok_or.ensures.value ∙ c.in_err-x.was) in
    let e = ap Err (sym p.1 ∙ c.at-2.ensures) ∙ xs_out (goal.at.returns-in_err-x c).Else-ys-gt8 (sym c.add_up.ensures ∙ p.0) in
    search rules

pub returns-in_err-y : goal.returns-in_err-y
returns-in_err-y c =
    let x = some_told c.add_up.result _ (sym c.ok_or.ensures.value ∙ c.in_ok-x.was) in
    let p = none_told c.add_up-2.result (sym c.ok_or-2.ensures.value ∙ c.in_err-y.was) in
    let e = ap Err (sym p.1 ∙ c.at-3.ensures) ∙ ys_out (goal.at.returns-in_err-y c).Else-ys-gt8 (sym c.add_up.ensures ∙ x) (sym c.add_up-2.ensures ∙ p.0) in
    search rules

pub returns : goal.returns
unfolding sums_of
returns c =
    let x = summed_is _ _ (sym c.add_up.ensures ∙ some_told c.add_up.result _ (sym c.ok_or.ensures.value ∙ c.in_ok-x.was)) in
    let y = summed_is _ _ (sym c.add_up-2.ensures ∙ some_told c.add_up-2.result _ (sym c.ok_or-2.ensures.value ∙ c.in_ok-y.was)) in
    simp (short_xs (goal.at.returns c).Else-ys-gt8, short_ys (goal.at.returns c).Else-ys-gt8, x.0, y.0, x.1, y.1)
