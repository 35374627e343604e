-- `words::word` meets its contract. The loop's invariant: the word holds the groups passed. Assumes nothing.
use mathlib.Core.Path.{◌≡◌, sym, ap, ap₂, ◌∙◌}
use Prim.Native.Nat.{ℕ, ◌+◌, ◌-◌, ◌*◌, ◌^◌}
use native.Mathlib.Omega.{arith}
use borrow.Author.Rules.{rules}
use lib.ListN.{get_or}
use Rattle.bits.specs.Numbers.{num_of}
use Rattle.bits.specs.Octets.{bit_at}
use Rattle.words.specs.Words.{place_of}
use Rattle.bits.proofs.NumberLaws.{num_none, num_lt}
use Rattle.bits.proofs.OctetLaws.{bit_lt}
use Rattle.words.proofs.PackingLaws.{seven_lt, group_read, group_more}
use Rattle.words.proofs.word.Goals as goal

pub loop-group-init : goal.loop-group-init
loop-group-init c = sym (num_none _)

pub place-gathered-requires : goal.place-gathered-requires
place-gathered-requires c =
    let l = c.loop-group in
    let s = c.args.image.now in
    let octet = get_or s c.data_group.result 0 in
    let small = seven_lt _ c.mirroring-mirrored.ensures octet in
    (rw l.invariant (num_lt _ _ (λ i _. bit_lt s _)), rw (c.from-in-loop-group.ensures, c.from.ensures) small, search rules)

pub loop-group-preserved : goal.loop-group-preserved
loop-group-preserved c =
    let l = c.loop-group in
    let a = c.args in
    let f : ℕ → ℕ = λ i. bit_at a.image.now (place_of a.k (i + 1)) in
    let next : l.group ≡ l.group + 1 - 1 = omega arith in
    let seven = c.from-in-loop-group.ensures ∙ ap (λ (n : ℕ). get_or c.mirroring-mirrored.result n 0) c.from.ensures in
    c.place-gathered.ensures.0
    ∙ ap₂ (λ (x y : ℕ). x * 2 ^ (7 * (l.group - 1)) + y)
    (seven ∙ group_read _ c.mirroring-mirrored.ensures a.image.now a.k l.group _ c.data_group.ensures (search rules))
    l.invariant
    ∙ group_more f l.group (search rules) ∙ ap (λ (n : ℕ). num_of f (7 * n)) next
