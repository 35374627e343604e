-- `capture::search` meets its contract. The loop's invariant: no good frame from the start on at the positions passed. Assumes nothing.
use mathlib.Core.Path.{refl}
use native.Mathlib.Omega.{arith}
use borrow.Author.Rules.{rules}
use Rattle.sieve.proofs.SieveLaws.{none_join, none_end}
use Rattle.capture.proofs.SearchLaws.{too_long, past_end, none_there, one_there, refused}
use Rattle.capture.proofs.search.Goals as goal

pub returns-then-capture-gt65536 : goal.returns-then-capture-gt65536
returns-then-capture-gt65536 c = refused _ _ c.of.ensures (λ q. omega arith) (too_long _ _ c.if-capture-gt65536.true)

pub returns-then-total-start : goal.returns-then-total-start
returns-then-total-start c = refused _ _ c.of-then-total-start.ensures (λ q. omega arith) (past_end _ _ c.if-capture-gt65536.false c.if-total-start.true)

pub returns-in-Break : goal.returns-in-Break
returns-in-Break c =
    let looked = c.in-Break.ensures in
    one_there _ _ c.if-capture-gt65536.false c.if-total-start.false _
    (omega (arith, looked.from), looked.found refl, none_join _ _ _ _ _ c.loop-p.invariant.2 (search rules) looked.none)

pub returns : goal.returns
returns c =
    let at-loop = c in
    refused _ _ c.of-2.ensures (λ q. omega arith)
    (none_there _ _ at-loop.if-capture-gt65536.false at-loop.if-total-start.false (none_end _ _ _ at-loop.loop-p.invariant.2 (search rules)))
