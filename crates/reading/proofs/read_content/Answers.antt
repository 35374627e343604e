-- `reading::read_content` meets its contract. Assumes nothing.
use borrow.Author.Rules.{rules}
use mathlib.Core.Path.{sym, ap, ◌∙◌}
use Rattle.std.proofs.Common.{Ok, Err}
use Rattle.message.proofs.CodecLaws.{content_right, content_wrong}
use Rattle.refusal.proofs.Mapped.{mapped_ok, mapped_err}
use Rattle.reading.proofs.read_content.Goals as goal

pub returns-in_err-map_err : goal.returns-in_err-map_err
returns-in_err-map_err c =
    let a = c.args in
    let trouble = mapped_err _ _ _ c.map_err.ensures.cases c.in_err-map_err.was in
    let wrong = content_wrong a.place a.k a.word trouble.0.cause trouble.0.bit (sym c.find_trouble.ensures ∙ trouble.1) in
    search rules

pub returns : goal.returns
returns c =
    let a = c.args in
    let right = mapped_ok _ _ _ c.map_err.ensures.cases c.in_ok-map_err.was in
    ap Ok c.read_message.ensures ∙ sym (content_right a.place a.k a.word (sym c.find_trouble.ensures ∙ right))
