-- `frame::Frame::verdict` meets its contract: the tests in turn. Assumes nothing.
use mathlib.Core.Path.{◌≡◌, refl, sym, ap, ◌∙◌}
use mathlib.Core.Bool.{Bool}
use Prim.Native.Nat.{ℕ}
use Rattle.std.proofs.Common.{Err}
use Rattle.refusal.specs.declared.Refusal.{Refusal}
use Rattle.refusal.specs.Checks.{answered}
use Rattle.frame.specs.Frame.{start_good, marks_good, checks_good, frame_verdict}
use Rattle.frame.proofs.ThreeTests.{verdict_by}
use Rattle.frame.proofs.FrameLaws.{by_tests}
use Rattle.frame.proofs.Frame.verdict.Goals as goal

answer : (b : ℕ → ℕ) {s m k : Bool} → start_good b ≡ s → marks_good b ≡ m → checks_good b ≡ k
    → answered (verdict_by s m k) (tt {0}) ≡ answered (frame_verdict b) tt
answer b es em ek = sym (ap (λ (r : Refusal). answered r (tt {0})) (by_tests b es em ek))

pub returns-then-not-is_started : goal.returns-then-not-is_started
returns-then-not-is_started c = ap Err c.of.ensures ∙ answer _ (sym c.is_started.ensures ∙ c.if-not-is_started.true) refl refl

pub returns-then-not-is_marked : goal.returns-then-not-is_marked
returns-then-not-is_marked c =
    ap Err c.of-then-not-is_marked.ensures
    ∙ answer _ (sym c.is_started.ensures ∙ c.if-not-is_started.false) (sym c.is_marked.ensures ∙ c.if-not-is_marked.true) refl

pub returns-then-not-is_checked : goal.returns-then-not-is_checked
returns-then-not-is_checked c =
    ap Err c.of-then-not-is_checked.ensures
    ∙ answer _ (sym c.is_started.ensures ∙ c.if-not-is_started.false) (sym c.is_marked.ensures ∙ c.if-not-is_marked.false)
    (sym c.is_checked.ensures ∙ c.if-not-is_checked.true)

pub returns : goal.returns
returns c =
    answer _ (sym c.is_started.ensures ∙ c.if-not-is_started.false) (sym c.is_marked.ensures ∙ c.if-not-is_marked.false)
    (sym c.is_checked.ensures ∙ c.if-not-is_checked.false)
