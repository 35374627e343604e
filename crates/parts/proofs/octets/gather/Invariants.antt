-- Where the line has no part left, nothing is gathered.
use Rattle.std.proofs.Common.{◌≡◌, []}
use Rattle.parts.specs.Parts.{parts_left}
use Rattle.parts.proofs.octets.gather.Given as goal

abbrev pub invariant-loop-part : goal.invariant-loop-part
invariant-loop-part l = parts_left l.fn.parts ≡ [] → (l.gathered.count ≡ 0) × (parts_left l.part-iterator ≡ [])
