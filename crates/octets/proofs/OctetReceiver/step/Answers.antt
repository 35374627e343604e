-- `octets::OctetReceiver::step` meets its contract. Assumes nothing.
use mathlib.Core.Path.{sym, ap, ap₂, ◌∙◌}
use Prim.Native.Nat.{◌^◌, ◌<◌}
use native.Mathlib.Omega.{arith}
use borrow.Author.Rules.{rules}
use Rattle.line.specs.Machine.{handed_of}
use Rattle.line.specs.declared.Handed.{Handed}
use Rattle.line.specs.declared.Window.{Window}
use Rattle.octets.specs.OctetSteps.{nothing_heard, heard_as}
use Rattle.octets.specs.declared.OctetReceiver.{OctetReceiver}
use Rattle.octets.proofs.AnswerLaws.{heard_none, heard_one}
use Rattle.octets.proofs.OctetReceiver.step.Goals as goal

abbrev made : Window → OctetReceiver
made w = record { window = w }

pub returns-then-j-eq0 : goal.returns-then-j-eq0
returns-then-j-eq0 c =
    let t = c.take-longer in
    let j = c.lead-j in
    c.hear_nothing.ensures ∙ ap (λ (w : Window). nothing_heard (made w)) t.ensures
    ∙ heard_none _ _ (search rules) (search rules) (search rules) (sym j.ensures.0 ∙ c.if-j-eq0.true)

pub returns : goal.returns
returns c =
    let start = c in
    let w = start.args.self.window in
    let older : w.older < 2 ^ 64 = omega arith in
    let newer : w.newer < 2 ^ 64 = omega arith in
    let t = c.take-longer in
    let j = c.lead-j in
    c.hear.ensures
    ∙ ap₂ (λ (w : Window) (h : Handed). heard_as (made w) h j.result) t.ensures (c.hand_over-handed.ensures ∙ ap handed_of c.take.ensures)
    ∙ heard_one w start.args.octet older newer (omega arith) j.result (search rules) j.ensures.1 (sym j.ensures.0)
