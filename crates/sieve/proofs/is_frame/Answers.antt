-- `sieve::is_frame` meets its contract. Assumes nothing.
use mathlib.Core.Path.{sym, ap, ◌∙◌}
use native.Mathlib.Omega.{arith}
use borrow.Author.Rules.{rules}
use Rattle.std.specs.Result.{is_ok}
use Rattle.sieve.proofs.SieveLaws.{value_told, lies_good, good_whole, not_good}
use Rattle.frame.proofs.FrameLaws.{verdict_good}
use Rattle.sieve.proofs.is_frame.Goals as goal

pub returns-then-capture-q : goal.returns-then-capture-q
returns-then-capture-q c = sym (not_good _ _ (λ e. omega (arith, good_whole _ _ e, c.if-capture-q.true)))

pub returns : goal.returns
returns c = c.is_ok.ensures.value ∙ ap is_ok c.verdict.ensures ∙ value_told _ ∙ verdict_good _ ∙ lies_good _ _ (search rules)
