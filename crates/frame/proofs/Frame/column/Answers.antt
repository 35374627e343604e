-- `frame::Frame::column` meets its contract. The loop's invariant: the number holds the bits passed. Assumes nothing.
use mathlib.Core.Path.{sym}
use Prim.Native.Nat.{◌+◌, ◌*◌}
use borrow.Author.Rules.{rules}
use Rattle.frame.specs.Frame.{frame_at}
use Rattle.bits.proofs.NumberLaws.{num_none, num_turn}
use Rattle.bits.proofs.OctetLaws.{bit_lt}
use Rattle.frame.proofs.Frame.column.Goals as goal

pub loop-g-init : goal.loop-g-init
loop-g-init c = sym (num_none _)

pub loop-g-preserved : goal.loop-g-preserved
loop-g-preserved c =
    let a = c.args in
    let s = a.self.octets.now in
    num_turn (λ h. frame_at s a.self.position (8 * h + 9 + a.j)) 32 c.loop-g.g _ c.from.result (search rules) (λ h. bit_lt s _)
    c.loop-g.invariant (search rules)
