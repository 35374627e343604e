-- `octets::take` meets its contract. Assumes nothing.
use mathlib.Core.Path.{ap, ◌∙◌}
use Prim.Native.Nat.{ℕ, ◌-◌, ◌/◌, ◌^◌}
use borrow.Author.Rules.{rules}
use Rattle.line.specs.Machine.{pushed_by}
use Rattle.octets.proofs.TakeLaws.{first_lt, take_is}
use Rattle.octets.proofs.take.Goals as goal

pub push-requires : goal.push-requires
push-requires c = (search rules, search rules, rw c.from.ensures (first_lt c.args.octet c.args.j (search rules) (search rules)))

pub returns : goal.returns
returns c =
    let j = c.args.j in
    c.push.ensures ∙ ap (λ (o : ℕ). pushed_by c.args.window (o / 2 ^ (8 - j)) j) c.from.ensures
    ∙ take_is _ _ _ (search rules) (search rules) (search rules) (search rules) (search rules)
