-- `words::put_message` meets its contract. The loop's invariant: the groups passed are stored. Assumes nothing.
use mathlib.Core.Path.{◌≡◌}
use Prim.Native.Nat.{◌+◌, ◌-◌}
use lib.ListN.{length}
use Rattle.bits.specs.Numbers.{written}
use Rattle.words.specs.Packing.{data_group, data_octet}
use Rattle.words.proofs.put_message.Given as goal

abbrev pub invariant-loop-group : goal.invariant-loop-group
invariant-loop-group l =
    (length l.image ≡ 16) × (l.image ≡ written l.initial.image (data_group l.k 1) (λ i. data_octet l.word (i + 1)) (l.group - 1))
