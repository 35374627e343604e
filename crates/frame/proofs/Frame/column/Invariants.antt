-- `frame::Frame::column` meets its contract. The loop's invariant: the number holds the bits passed. Assumes nothing.
use mathlib.Core.Path.{◌≡◌}
use Prim.Native.Nat.{◌+◌, ◌*◌}
use Rattle.bits.specs.Numbers.{num_of}
use Rattle.frame.specs.Frame.{frame_at}
use Rattle.frame.proofs.Frame.column.Given as goal

abbrev pub invariant-loop-g : goal.invariant-loop-g
invariant-loop-g l = l.gathered ≡ num_of (λ h. frame_at l.self.octets.now l.self.position (8 * h + 9 + l.j)) l.g
