-- `sieve::pass_unmarked` meets its contract. The loop's invariant: what the AND so far rules out. Assumes nothing.
use Rattle.sieve.proofs.SieveLaws.{Sifted}
use Rattle.sieve.proofs.pass_unmarked.Given as goal

abbrev pub invariant-loop-from : goal.invariant-loop-from
invariant-loop-from l = Sifted l.capture l.i l.ones l.from
