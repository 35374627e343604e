-- `words::put_message` meets its contract. The loop's invariant: the groups passed are stored. Assumes nothing.
use mathlib.Core.Path.{◌≡◌, sym, ap, ◌∙◌}
use Prim.Native.Nat.{◌+◌, ◌-◌}
use native.Mathlib.Omega.{arith}
use borrow.Author.Rules.{rules}
use lib.ListN.{set}
use Rattle.bits.specs.Numbers.{written}
use Rattle.words.specs.Packing.{data_group, data_octet}
use Rattle.bits.proofs.NumberLaws.{written_none, written_more}
use Rattle.words.proofs.PackingLaws.{group_written}
use Rattle.words.proofs.put_message.Goals as goal

pub loop-group-init : goal.loop-group-init
loop-group-init c = (search rules, sym (written_none _ _ _))

pub loop-group-preserved : goal.loop-group-preserved
loop-group-preserved c =
    let l = c.loop-group in
    let a = c.args in
    let n = l.group - 1 in
    let at : c.data_group.result ≡ data_group a.k 1 + n = omega (arith, c.data_group.ensures) in
    let this : l.group ≡ n + 1 = omega arith in
    let octet = group_written _ c.mirroring-mirrored.ensures a.word l.group _ c.field-seven.ensures ∙ ap (data_octet a.word) this in
    let next : n + 1 ≡ l.group + 1 - 1 = omega arith in (
      search rules,
      (λ i. set (l.invariant.1 i) (at i) (octet i)) ∙ sym (written_more _ _ _ n) ∙ ap (written _ _ _) next,
    )
