-- `line::push` meets its contract. Assumes nothing.
use mathlib.Core.Path.{◌≡◌, ap₂, subst}
use Prim.Native.Nat.{ℕ, ◌+◌, ◌-◌, ◌^◌, ◌<◌}
use native.Mathlib.Omega.{arith}
use borrow.Author.Rules.{rules}
use lib.Pow.{shr_lt}
use Rattle.line.specs.declared.Window.{Window}
use Rattle.line.proofs.WindowLaws.{shifted_in}
use Rattle.line.proofs.push.Goals as goal

abbrev made : ℕ → ℕ → Window
made older newer = record { older = older; newer = newer }

pub returns : goal.returns
returns c =
    let n = c.args.count in
    let e : 64 ≡ n + (64 - n) = omega arith in
    let fits : c.args.window.newer < 2 ^ 64 = search rules in
    let left : c.args.window.newer < 2 ^ (n + (64 - n)) = subst (λ (m : ℕ). c.args.window.newer < 2 ^ m) e fits in
    ap₂ made (shifted_in _ _ n (omega arith) (shr_lt n (64 - n) left)) (shifted_in _ _ n (omega arith) c.requires.2)
