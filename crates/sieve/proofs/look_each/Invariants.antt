-- `sieve::look_each` meets its contract. The loop's invariant: no good frame at the positions passed. Assumes nothing.
use Prim.Native.Nat.{◌-◌, ◌*◌, ◌≤◌}
use lib.ListN.{length}
use Rattle.sieve.specs.Capture.{NoneIn}
use Rattle.sieve.proofs.look_each.Given as goal

abbrev pub invariant-loop-q : goal.invariant-loop-q
invariant-loop-q l = (l.p ≤ l.q) × (l.q ≤ 8 * length l.capture) × NoneIn l.capture l.p l.q

abbrev pub decreases-loop-q : goal.decreases-loop-q
decreases-loop-q l = 8 * length l.capture - l.q
