-- `words::word` meets its contract. The loop's invariant: the word holds the groups passed. Assumes nothing.
use mathlib.Core.Path.{◌≡◌}
use Prim.Native.Nat.{◌+◌, ◌-◌, ◌*◌}
use Rattle.bits.specs.Numbers.{num_of}
use Rattle.bits.specs.Octets.{bit_at}
use Rattle.words.specs.Words.{place_of}
use Rattle.words.proofs.word.Given as goal

abbrev pub invariant-loop-group : goal.invariant-loop-group
invariant-loop-group l =
    l.gathered ≡ num_of (λ i. bit_at l.image (place_of l.k (i + 1))) (7 * (l.group - 1))
