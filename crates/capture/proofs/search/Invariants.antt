-- `capture::search` meets its contract. The loop's invariant: no good frame from the start on at the positions passed. Assumes nothing.
use Prim.Native.Nat.{◌-◌, ◌≤◌}
use Rattle.sieve.specs.Capture.{NoneIn}
use Rattle.capture.proofs.search.Given as goal

abbrev pub invariant-loop-p : goal.invariant-loop-p
invariant-loop-p l = (l.start ≤ l.p) × (l.p ≤ l.total) × NoneIn l.capture l.start l.p

abbrev pub decreases-loop-p : goal.decreases-loop-p
decreases-loop-p l = l.total - l.p
