-- What `all` answers over the numbers 0 to n - 1. Assumes nothing.
use mathlib.Core.Path.{◌≡◌, sym, ap, ◌∙◌}
use mathlib.Core.Bool.{Bool, true, false}
use Prim.Native.Nat.{ℕ, ◌<◌}
use native.Mathlib.Nat.{zero-add}
use native.Mathlib.Omega.{arith}
use denote.Param.Members.{Mut}
use Rattle.std.specs.Bool.{MatchBool}
use Rattle.std.specs.Fn.{Called}
use Rattle.std.specs.Iterator.{ChecksAll}
use Rattle.std.specs.List.{range_with_len, AllWithin, HoldsAt}
use Rattle.std.specs.declared.ops.Range.{Range}
use Rattle.std.proofs.iter.Yields.{nat_range_steps}
use Rattle.std.proofs.lemmas.Iterator.{YieldsList-from_range, cases_from_all}
use Rattle.std.proofs.lemmas.List.FromFn.{length-range_with_len, get_or-range_with_len}
use lib.ListN.{length, get_or}
use Rattle.bits.specs.Tests.{every}
use Rattle.bits.proofs.TestLaws.{every_all, every_fails}

module _ (f : ℕ → Bool) (n : ℕ) where
  number : (k : ℕ) → k < n → get_or (range_with_len 0 n) k 0 ≡ k
  number k l = get_or-range_with_len 0 n k 0 l ∙ zero-add k

  by_cases : (r : Bool) → MatchBool r (AllWithin (λ k. f k ≡ true) (range_with_len 0 n) 0 (length (range_with_len 0 n)))
      ((k : ℕ) × (k < length (range_with_len 0 n)) × HoldsAt (λ k. f k ≡ false) (range_with_len 0 n) k) → r ≡ every f n
  by_cases true all =
      sym (every_all f n (λ k l. ap f (sym (number k l)) ∙ all k 0 (omega arith) (omega (arith, length-range_with_len 0 n))))
  by_cases false (k, l, fails) =
      let m : k < n = omega (arith, length-range_with_len 0 n) in
      sym (every_fails f n k m (ap f (sym (number k m)) ∙ fails 0))

  -- a closure that answers f of each number, and stays as it is
  pub every_by_all : {F : Type 0} {g : Mut F (ℕ × Unit {0}) Bool} {s u : Range ℕ} {p : F} {r : Bool}
      → s ≡ record { start = 0; end = n } → ChecksAll nat_range_steps g s p r u
      → ((x : ℕ) (b : Bool) (q : F) → Called g p (x, tt) b q → (q ≡ p) × (b ≡ f x)) → r ≡ every f n
  every_by_all {u = u} {p = p} {r = r} e ran each =
      by_cases r (cases_from_all u p r (λ k. f k ≡ true) (λ k. f k ≡ false) ran (YieldsList-from_range 0 n n e (omega arith))
      (λ x q c. let h = each x true q c in (h.0, sym h.1)) (λ x q c. sym (each x false q c).1))
