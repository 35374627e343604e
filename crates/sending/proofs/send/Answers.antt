-- `sending::send` meets its contract: the checks in turn. Assumes nothing.
use mathlib.Core.Path.{sym, ap, ◌∙◌}
use native.Mathlib.Omega.{arith}
use Prim.Native.Nat.{ℕ}
use Rattle.std.proofs.lemmas.Result.{err_from_is_err_and}
use Rattle.refusal.specs.declared.Refusal.{Refusal}
use Rattle.refusal.proofs.CheckLaws.{answer_is, answer_not}
use Rattle.line.proofs.SendingLaws.{bad_image, bad_buffer, bad_previous, by_verdict, sent_refused, sent_written}
use Rattle.sending.proofs.send.Goals as goal

abbrev number : Refusal → ℕ
number r = r.number

pub returns-then-image-ne16 : goal.returns-then-image-ne16
returns-then-image-ne16 c = rw c.of.ensures (sent_refused _ _ _ _ (bad_image _ _ _ c.if-image-ne16.true) (λ q. omega arith))

pub returns-then-levels-ne128 : goal.returns-then-levels-ne128
returns-then-levels-ne128 c =
    rw c.of-then-levels-ne128.ensures
    (sent_refused _ _ _ _ (bad_buffer _ _ _ c.if-image-ne16.false c.if-levels-ne128.true) (λ q. omega arith))

pub returns-then-previous-gt1 : goal.returns-then-previous-gt1
returns-then-previous-gt1 c =
    rw c.of-then-previous-gt1.ensures
    (sent_refused _ _ _ _ (bad_previous _ _ _ c.if-image-ne16.false c.if-levels-ne128.false c.if-previous-gt1.true) (λ q. omega arith))

pub returns-in_err-verdict : goal.returns-in_err-verdict
returns-in_err-verdict c =
    let passed_up = err_from_is_err_and c.from_residual.result c.from_residual.ensures.1 in
    let told = answer_not tt _ _ (sym c.in_err-verdict.ensures) in
    let e = by_verdict _ _ _ c.if-image-ne16.false c.if-levels-ne128.false c.if-previous-gt1.false in
    rw (passed_up.1, passed_up.2) (sent_refused _ _ _ _ (e ∙ told.0) told.1)

pub returns : goal.returns
returns c =
    let good = answer_is tt _ _ (sym c.in_ok-verdict.ensures) in
    let e = by_verdict _ _ _ c.if-image-ne16.false c.if-levels-ne128.false c.if-previous-gt1.false in
    rw c.put_levels.ensures (sent_written _ _ _ (ap number e ∙ good.0))
