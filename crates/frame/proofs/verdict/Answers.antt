-- `frame::verdict` meets its contract. Assumes nothing.
use mathlib.Core.Path.{sym, ap, ◌∙◌}
use Rattle.std.proofs.Common.{Err}
use Rattle.refusal.specs.Checks.{answered}
use Rattle.refusal.specs.declared.Refusal.{Refusal}
use Rattle.frame.specs.Frame.{frame_verdict}
use Rattle.frame.proofs.FrameLaws.{frame_0, verdict_length, verdict_image}
use Rattle.frame.proofs.verdict.Goals as goal

pub returns-then-image-ne16 : goal.returns-then-image-ne16
returns-then-image-ne16 c =
    ap Err c.of.ensures ∙ sym (ap (λ (r : Refusal). answered r (tt {0})) (verdict_length _ c.if-image-ne16.true))

pub returns : goal.returns
returns c =
    let s = c.args.image.now in
    c.verdict.ensures
    ∙ ap (λ (r : Refusal). answered r (tt {0})) (ap frame_verdict (frame_0 s) ∙ sym (verdict_image s c.if-image-ne16.false))
