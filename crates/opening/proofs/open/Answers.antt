-- `opening::open` meets its contract. Assumes nothing.
use Rattle.std.proofs.Common.{rules, sym, ap₂, ◌∙◌}
use Rattle.frame.specs.Frame.{verdict_of}
use Rattle.pair.specs.Opening.{open_words}
use Rattle.refusal.proofs.CheckLaws.{answer_is, answer_not}
use Rattle.frame.proofs.FrameLaws.{verdict_size}
use Rattle.pair.proofs.PairLaws.{open_refused, open_good}
use Rattle.opening.proofs.open.Goals as goal

pub returns-in_err-verdict : goal.returns-in_err-verdict
returns-in_err-verdict c =
    let p = answer_not tt (verdict_of c.args.image.now) c.in_err-verdict.field-0.0 (sym c.verdict.ensures ∙ c.in_err-verdict.was) in
    let e = open_refused c.args.image.now c.in_err-verdict.field-0.0 (sym p.0) p.1 in
    search rules

pub word-requires : goal.word-requires
word-requires c =
    let good = answer_is tt (verdict_of c.args.image.now) tt (sym c.verdict.ensures ∙ c.in_ok-verdict.was) in
    (search rules, search rules, verdict_size _ good.0)

pub word-requires-2 : goal.word-requires-2
word-requires-2 c =
    let good = answer_is tt (verdict_of c.args.image.now) tt (sym c.verdict.ensures ∙ c.in_ok-verdict.was) in
    (search rules, search rules, verdict_size _ good.0)

pub returns : goal.returns
returns c =
    let good = answer_is tt (verdict_of c.args.image.now) tt (sym c.verdict.ensures ∙ c.in_ok-verdict.was) in
    c.open_words.ensures ∙ ap₂ open_words c.word.ensures c.word-2.ensures ∙ open_good _ good.0
