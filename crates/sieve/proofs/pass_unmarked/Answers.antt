-- `sieve::pass_unmarked` meets its contract. The loop's invariant: what the AND so far rules out. Assumes nothing.
use borrow.Author.Rules.{rules}
use Rattle.sieve.proofs.SieveLaws.{sift_start, sift_more, sift_none}
use Rattle.sieve.proofs.pass_unmarked.Goals as goal

pub loop-from-init : goal.loop-from-init
loop-from-init c = sift_start _ _

pub returns-then-ones-eq0 : goal.returns-then-ones-eq0
returns-then-ones-eq0 c = (search rules, sift_none _ _ _ _ (sift_more _ _ _ _ c.loop-from.invariant (search rules)) c.if-ones-eq0.true (search rules))

pub loop-from-preserved : goal.loop-from-preserved
loop-from-preserved c = sift_more _ _ _ _ c.loop-from.invariant (search rules)
