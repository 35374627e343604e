-- `pair_shift::shift_pair` meets its contract. Assumes nothing.
use Rattle.std.proofs.Common.{rules, sym, ◌∙◌}
use Rattle.shift.proofs.ShiftLaws.{lists_refused, lists_added}
use Rattle.pair_shift.proofs.shift_pair.Goals as goal

pub returns-in_err-by : goal.returns-in_err-by
returns-in_err-by c =
    let a = c.args in
    let e = lists_refused a.first a.second a.xs.now a.ys.now c.in_err-by.field-0.0 (sym c.add_both.ensures ∙ c.in_err-by.was) in
    search rules

pub returns : goal.returns
returns c = c.shift_both.ensures ∙ lists_added _ _ _ _ _ (sym c.add_both.ensures ∙ c.in_ok-by.was)
