-- `opening::open_words` meets its contract. Assumes nothing.
use Rattle.std.proofs.Common.{◌≡◌, rules, refl, sym, ap, ◌∙◌, Some, Err}
use Rattle.kind.specs.Labels.{labelled_of}
use Rattle.pair.proofs.PairLaws.{words_by, no_pair, in_table}
use Rattle.refusal.proofs.OkOr.{none_told, some_told}
use Rattle.opening.proofs.open_words.Goals as goal
use Rattle.opening.proofs.open_words.Goals.{After-is_pair}

-- the kinds that the labels name
one : (c : After-is_pair) → labelled_of c.args.v ≡ Some c.in_ok-k.k
one c = sym c.find_kind.ensures ∙ some_told c.find_kind.result _ (sym c.ok_or.ensures.value ∙ c.in_ok-k.was)

other : (c : After-is_pair) → labelled_of c.args.w ≡ Some c.in_ok-l.l
other c = sym c.find_kind-2.ensures ∙ some_told c.find_kind-2.result _ (sym c.ok_or-2.ensures.value ∙ c.in_ok-l.was)

pub returns-in_err-k : goal.returns-in_err-k
returns-in_err-k c =
    let p = none_told c.find_kind.result (sym c.ok_or.ensures.value ∙ c.in_err-k.was) in
    let e = ap Err (sym p.1 ∙ c.at.ensures) ∙ words_by c.args.v c.args.w (sym c.find_kind.ensures ∙ p.0) refl in
    search rules

pub returns-in_err-l : goal.returns-in_err-l
returns-in_err-l c =
    let p = none_told c.find_kind-2.result (sym c.ok_or-2.ensures.value ∙ c.in_err-l.was) in
    let known = sym c.find_kind.ensures ∙ some_told c.find_kind.result _ (sym c.ok_or.ensures.value ∙ c.in_ok-k.was) in
    let e = ap Err (sym p.1 ∙ c.at-2.ensures) ∙ words_by c.args.v c.args.w known (sym c.find_kind-2.ensures ∙ p.0) in
    search rules

pub returns-then-not-is_pair : goal.returns-then-not-is_pair
returns-then-not-is_pair c =
    let p = (goal.at.returns-then-not-is_pair c).After-is_pair in
    ap Err c.of.ensures ∙ sym (no_pair _ _ _ _ (sym c.is_pair.ensures ∙ c.if-not-is_pair.true)) ∙ words_by _ _ (one p) (other p)

pub returns : goal.returns
returns c =
    let p = (goal.at.returns c).After-is_pair in
    c.open_contents.ensures ∙ in_table _ _ _ _ (sym c.is_pair.ensures ∙ c.if-not-is_pair.false) ∙ words_by _ _ (one p) (other p)
