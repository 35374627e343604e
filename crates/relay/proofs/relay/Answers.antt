-- `relay::relay` meets its contract. Assumes nothing.
use Rattle.std.proofs.Common.{rules, sym, ap, ◌∙◌, Err, arith}
use Rattle.refusal.specs.Checks.{answered}
use Rattle.refusal.specs.declared.Refusal.{Refusal}
use Rattle.relay.proofs.RelayLaws.{relayed_refused, open_refused, bad_buffer, shift_refused, shift_closed}
use Rattle.relay.proofs.relay.Goals as goal

pub returns-in_err-first : goal.returns-in_err-first
returns-in_err-first c =
    let a = c.args in
    let r = c.in_err-first.field-0.0 in
    let u = open_refused a.image.now a.xs.now a.ys.now a.buffer.now r (sym c.«open».ensures ∙ c.in_err-first.was) in
    let p = relayed_refused a.image.now a.xs.now a.ys.now a.buffer.now r u.0 u.1 in
    search rules

pub returns-then-buffer-ne16 : goal.returns-then-buffer-ne16
returns-then-buffer-ne16 c =
    let e = bad_buffer _ _ _ (sym c.«open».ensures ∙ c.in_ok-first.was) _ _ _ c.if-buffer-ne16.true in
    let p = relayed_refused _ _ _ _ _ e (λ q. omega arith) in
    (ap Err c.of.ensures ∙ p.0, p.1)

pub returns-in_err-a : goal.returns-in_err-a
returns-in_err-a c =
    let a = c.args in
    let r = c.in_err-a.field-0.0 in
    let u = shift_refused _ _ _ (sym c.«open».ensures ∙ c.in_ok-first.was) a.xs.now a.ys.now a.buffer.now c.if-buffer-ne16.false r (sym c.shift_pair.ensures ∙ c.in_err-a.was) in
    let p = relayed_refused a.image.now a.xs.now a.ys.now a.buffer.now r u.0 u.1 in
    search rules

pub returns : goal.returns
returns c =
    let p = shift_closed _ _ _ (sym c.«open».ensures ∙ c.in_ok-first.was) _ _ _ c.if-buffer-ne16.false _ _ (sym c.shift_pair.ensures ∙ c.in_ok-a.was) in
    (c.close.ensures.0 ∙ ap (λ (r : Refusal). answered r tt) p.0, c.close.ensures.1 ∙ p.1)
