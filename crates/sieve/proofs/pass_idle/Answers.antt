-- `sieve::pass_idle` meets its contract. Assumes nothing.
use mathlib.Core.Path.{◌≡◌, subst}
use Prim.Native.Nat.{ℕ, ◌+◌, ◌-◌, ◌%◌}
use native.Mathlib.Omega.{arith}
use borrow.Author.Rules.{rules}
use borrow.Author.Tests.{tests}
use lib.ListN.{length}
use Rattle.std.specs.List.{between}
use Rattle.std.proofs.lemmas.Iterator.{IsFirst-from_position, YieldsList-from_slice}
use Rattle.std.proofs.lemmas.List.Edits.{length-between}
use Rattle.sieve.specs.Sieve.{PassedOver}
use Rattle.sieve.proofs.SieveLaws.{idle_part}
use Rattle.sieve.proofs.pass_idle.Goals as goal

pub returns-in-Some : goal.returns-in-Some
returns-in-Some c =
    let s = c.args.capture.now in
    let i = c.args.i in
    let first = IsFirst-from_position _ _ _ (λ (x : ℕ). x % 2 ≡ 0) (λ (x : ℕ). x % 2 ≡ 0 → ⊥) c.in-Some.ensures.ran
    (YieldsList-from_slice (between i (length s) s) c.iter.ensures.rest)
    (λ x q k. search (rules, tests)) (λ x q k. search (rules, tests)) in
    idle_part s i c.in-Some.passed (search rules) (omega (arith, first.0, length-between s i (length s) (omega arith))) first.2

pub returns-in-None : goal.returns-in-None
returns-in-None c =
    let s = c.args.capture.now in
    let i = c.args.i in
    let none = IsFirst-from_position _ _ _ (λ (x : ℕ). x % 2 ≡ 0) (λ (x : ℕ). x % 2 ≡ 0 → ⊥) c.in-None.ensures.ran
    (YieldsList-from_slice (between i (length s) s) c.iter.ensures.rest)
    (λ x q k. search (rules, tests)) (λ x q k. search (rules, tests)) in
    let n = length (between i (length s) s) in
    let e : n ≡ length s - i = length-between s i (length s) (omega arith) in
    let end : i + n ≡ length s = omega arith in
    subst (PassedOver s i) end (idle_part s i n (search rules) (omega arith) none)
