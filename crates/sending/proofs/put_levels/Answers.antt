-- `sending::put_levels` meets its contract. The loop's invariant: the levels passed tell the bits passed. Assumes nothing.
use mathlib.Core.Path.{sym, ap, ◌∙◌}
use borrow.Author.Rules.{rules}
use Rattle.line.specs.Sending.{next}
use Rattle.bits.proofs.NumberLaws.{get_or-tab, length_tab}
use Rattle.line.proofs.SendingLaws.{sending_more, sending_done}
use Rattle.sending.proofs.put_levels.Goals as goal

pub loop-i-preserved : goal.loop-i-preserved
loop-i-preserved c =
    sending_more _ _ _ _ _ _ c.loop-i.invariant (search rules) (length_tab _ 128)
    (c.tell-level.ensures.0 ∙ ap (next _) (c.bit.ensures ∙ sym (get_or-tab _ 128 _ (search rules)))) c.tell-level.ensures.1

pub returns : goal.returns
returns c = sending_done _ _ _ _ _ c.loop-i.invariant (length_tab _ 128) (search rules)
