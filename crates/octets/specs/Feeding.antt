-- The receiver that is fed octets, as it works (02, item 5): eight decoded bits at once, most significant first. It is said with the first
-- receiver's window and push. ToldOctets.antt says what it must hand over.
use Rattle.std.specs.Prelude.{Bool, List, ℕ, zero, suc, ◌-◌, ◌/◌, ◌%◌, ◌^◌, ltb, get_or}
use Rattle.bits.specs.Tests.{pick}
use Rattle.line.specs.Machine.{pushed, window_image, no_image, holds_frame, idle_window}
use Rattle.line.specs.declared.Window.{Window}
use Rattle.octets.specs.declared.OctetReceiver.{OctetReceiver}
use Rattle.octets.specs.declared.HeardOctet.{HeardOctet}

-- the window with the first j bits of an octet more, one after the other
unfoldable pub taken : Window → ℕ → ℕ → Window
taken w octet zero = w
taken w octet (suc j) = pushed (taken w octet j) (octet / 2 ^ (7 - j) % 2)

-- a good frame ends at bit j of the octet
abbrev pub ends_at : Window → ℕ → ℕ → Bool
ends_at w octet j = holds_frame (taken w octet j)

-- the last of 1 to n that passes, or 0
unfoldable pub last_that : (ℕ → Bool) → ℕ → ℕ
last_that f zero = 0
last_that f (suc n) = pick (f (suc n)) (suc n) (last_that f n)

-- 'at which of the eight bits', 1 to 8; 0 where none ended. At most one can (`at_most_one`, proofs/AnswerLaws.antt)
unfoldable pub end_bit : Window → ℕ → ℕ
end_bit w octet = last_that (ends_at w octet) 8

-- the answer where a frame ended at a bit, or at bit 0, which is none: the frame, or zero octets
abbrev pub answer_at : Window → ℕ → ℕ → HeardOctet
answer_at w octet bit =
    record {
      receiver = record { window = taken w octet 8 };
      frame = ltb 0 bit;
      bit = bit;
      image = pick (ltb 0 bit) (window_image (taken w octet bit)) no_image;
    }

abbrev pub heard_octet : OctetReceiver → ℕ → HeardOctet
heard_octet s octet = answer_at s.window octet (end_bit s.window octet)

-- as after an idle line, as the first receiver when it is fresh: bits before the first octet never count
abbrev pub fresh_octets : OctetReceiver
fresh_octets = record { window = idle_window }

-- a fresh receiver after the first k of a run of octets, and its answer to the next one, octet k from 0
unfoldable pub fed_to : List ℕ → ℕ → OctetReceiver
fed_to octets zero = fresh_octets
fed_to octets (suc k) = (heard_octet (fed_to octets k) (get_or octets k 0)).receiver

abbrev pub heard_at : List ℕ → ℕ → HeardOctet
heard_at octets k = heard_octet (fed_to octets k) (get_or octets k 0)
