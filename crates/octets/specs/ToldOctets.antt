-- THE EQUALITY and DEMAND 3 for the octet receiver (02, item 5): the bits that have come, what they say, and what the two receivers hand
-- over. That bits end in a good frame is `ends_good`, in Told.antt of `line`.
use Rattle.std.specs.Prelude.{Bool, true, false, List, ℕ, zero, suc, ◌+◌, ◌*◌, eqb, replicate}
use Rattle.bits.specs.Tests.{pick, both}
use Rattle.bits.specs.Numbers.{tab}
use Rattle.bits.specs.Octets.{bit_at, octets_of}
use Rattle.line.specs.Machine.{no_image}
use Rattle.line.specs.Told.{last_frame, ends_good}
use Rattle.line.specs.declared.Handed.{Handed}
use Rattle.line.specs.declared.Heard.{Heard}
use Rattle.octets.specs.Feeding.{fed_to}
use Rattle.octets.specs.declared.OctetReceiver.{OctetReceiver}
use Rattle.octets.specs.declared.HeardOctet.{HeardOctet}

-- the first n bits of a run of octets, in their order
abbrev pub first_bits : List ℕ → ℕ → List ℕ
first_bits octets n = tab (λ i. bit_at octets (i + 1)) n

-- the first that passes of `count` numbers that begin with `from`, or 0
unfoldable pub first_from : ℕ → ℕ → (ℕ → Bool) → ℕ
first_from from zero f = 0
first_from from (suc count) f = pick (f from) from (first_from (suc from) count f)

-- 'whether a good frame ended within it, at which of the eight bits' (02, item 5): the first of bits 1 to 8 of octet k with which the bits
-- that have come end in a good frame, or 0
abbrev pub good_bit : List ℕ → ℕ → ℕ
good_bit octets k = first_from 1 8 (λ j. ends_good (first_bits octets (8 * k + j)))

-- 'and the frame': where one ended at a bit, the last 128 of the bits to there; at bit 0 none, and zero octets
abbrev pub told_frame : List ℕ → ℕ → ℕ → Handed
told_frame octets k zero = record { frame = false; image = replicate 16 0 }
told_frame octets k (suc i) = record { frame = true; image = octets_of 16 (last_frame (first_bits octets (8 * k + suc i))) }

-- an answer: the state to go on with, the bit, and what is handed over
abbrev pub octet_with : OctetReceiver → ℕ → Handed → HeardOctet
octet_with s bit handed = record { receiver = s; frame = handed.frame; bit = bit; image = handed.image }

-- the whole answer to octet k of a run, said of the bits alone but for the state
abbrev pub told_octet : List ℕ → ℕ → HeardOctet
told_octet octets k = octet_with (fed_to octets (suc k)) (good_bit octets k) (told_frame octets k (good_bit octets k))

-- what the first receiver hands over at a level
abbrev pub handed_by : Heard → Handed
handed_by h = record { frame = h.frame; image = h.image }

-- what the octet receiver hands over at bit j of an octet
abbrev pub framed_at : HeardOctet → ℕ → Bool
framed_at h j = both h.frame (eqb h.bit j)

abbrev pub handed_at : HeardOctet → ℕ → Handed
handed_at h j = record { frame = framed_at h j; image = pick (framed_at h j) h.image no_image }
