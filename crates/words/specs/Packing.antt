-- What the code makes step by step, group by group and octet by octet (001, Annex A, Appendix 3, paragraphs 1 to 3); Words.antt says what
-- it is for.
use Rattle.std.specs.Prelude.{List, ℕ, ◌+◌, ◌-◌, ◌*◌, ◌/◌, ◌%◌, ◌^◌}
use Rattle.bits.specs.Numbers.{num_of, written}
use Rattle.bits.specs.Octets.{bit_at}
use Rattle.frame.specs.Frame.{column_of}
use Rattle.words.specs.Words.{message_bit}

-- group g (1 to 7) of message k is this data group of the frame, and this octet of the image: octet 0 is the start group
abbrev pub data_group : ℕ → ℕ → ℕ
data_group k g = 7 * (k - 1) + g

-- the seven low bits of a number the other way round
abbrev pub mirrored_of : ℕ → ℕ
mirrored_of n = num_of (λ i. n / 2 ^ (6 - i) % 2) 7

-- the octet of a message's group g: the mark, and the group's seven bits
abbrev pub data_octet : ℕ → ℕ → ℕ
data_octet word g = 128 + num_of (λ i. message_bit word (7 * (g - 1) + (7 - i))) 7

-- octets with the seven octets of message k stored over them
abbrev pub message_stored : List ℕ → ℕ → ℕ → List ℕ
message_stored image k word = written image (data_group k 1) (λ i. data_octet word (i + 1)) 7

-- the check octet for an image whose last octet is 0: the mark, check bits 1 to 6, and the final one
abbrev pub check_octet : List ℕ → ℕ
check_octet image = 129 + num_of (λ i. (column_of (bit_at image) (6 - i) + 1) % 2) 6 * 2
