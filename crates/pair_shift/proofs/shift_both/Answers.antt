-- `pair_shift::shift_both` meets its contract. Assumes nothing.
use Rattle.std.proofs.Common.{rules, sym, ◌∙◌}
use Rattle.shift.proofs.ShiftLaws.{first_refused, second_refused, both_moved}
use Rattle.pair_shift.proofs.shift_both.Goals as goal

pub returns-in_err-a : goal.returns-in_err-a
returns-in_err-a c =
    let a = c.args in
    let e = first_refused a.first a.second a.by.x.0 a.by.y.0 c.in_err-a.field-0.0 (sym c.shift.ensures ∙ c.in_err-a.was) in
    search rules

pub returns-in_err-b : goal.returns-in_err-b
returns-in_err-b c =
    let a = c.args in
    let e = second_refused a.first a.second a.by.x.0 a.by.y.0 c.in_ok-a.a (sym c.shift.ensures ∙ c.in_ok-a.was) c.in_err-b.field-0.0 (sym c.shift-2.ensures ∙ c.in_err-b.was) in
    search rules

pub returns : goal.returns
returns c = both_moved _ _ _ _ _ (sym c.shift.ensures ∙ c.in_ok-a.was) _ (sym c.shift-2.ensures ∙ c.in_ok-b.was)
