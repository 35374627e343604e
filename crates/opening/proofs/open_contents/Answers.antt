-- `opening::open_contents` meets its contract. Assumes nothing.
use Rattle.std.proofs.Common.{rules, sym, ◌∙◌}
use Rattle.pair.proofs.PairLaws.{first_refused, second_refused, both_read}
use Rattle.opening.proofs.open_contents.Goals as goal

pub returns-in_err-first : goal.returns-in_err-first
returns-in_err-first c =
    let a = c.args in
    let e = first_refused a.k a.l a.v a.w c.in_err-first.field-0.0 (sym c.read_content.ensures ∙ c.in_err-first.was) in
    search rules

pub returns-in_err-second : goal.returns-in_err-second
returns-in_err-second c =
    let a = c.args in
    let e = second_refused a.k a.l a.v a.w c.in_ok-first.first (sym c.read_content.ensures ∙ c.in_ok-first.was) c.in_err-second.field-0.0 (sym c.read_content-2.ensures ∙ c.in_err-second.was) in
    search rules

pub returns : goal.returns
returns c =
    both_read _ _ _ _ _ (sym c.read_content.ensures ∙ c.in_ok-first.was) _ (sym c.read_content-2.ensures ∙ c.in_ok-second.was)
