-- The two messages of a frame (001, Annex A, Appendix 3, paragraphs 1 to 3, Figures A3-1 and A3-2).
-- A word is a message's 49 bits as one number: message bit i has weight 2 ^ (i - 1).
use Rattle.std.specs.Prelude.{List, ℕ, ◌+◌, ◌-◌, ◌*◌, ◌/◌, ◌%◌, ◌^◌, eqb, leb}
use Rattle.bits.specs.Tests.{pick}
use Rattle.bits.specs.Numbers.{num_of, sum_of}
use Rattle.bits.specs.Octets.{octets_of}

-- Figure A3-2: the frame bit of bit i (1 to 49) of message k (1 or 2)
abbrev pub place_of : ℕ → ℕ → ℕ
place_of k i = 10 + 56 * (k - 1) + 8 * ((i - 1) / 7) + (i - 1) % 7

-- the word of message k of the frame b
abbrev pub word_of : (ℕ → ℕ) → ℕ → ℕ
word_of b k = num_of (λ i. b (place_of k (i + 1))) 49

-- bit i of a word
abbrev pub message_bit : ℕ → ℕ → ℕ
message_bit word i = word / 2 ^ (i - 1) % 2

-- bit j of data group g: groups 1 to 7 carry the first message's bits 1 to 49 in rising order, groups 8 to 14 the second's
abbrev pub data_bit : ℕ → ℕ → ℕ → ℕ → ℕ
data_bit first second g j = message_bit (pick (leb g 7) first second) (7 * ((g - 1) % 7) + j)

-- check bit j makes odd the number of ones among bit j of the fourteen data groups and itself
abbrev pub check_bit : ℕ → ℕ → ℕ → ℕ
check_bit first second j = (sum_of (λ g. data_bit first second (g + 1) j) 14 + 1) % 2

-- bit j (0 to 7) of group g (0 to 15): the start group's zeros; else the mark, and the bits of a data group or of the check group
abbrev pub group_bit : ℕ → ℕ → ℕ → ℕ → ℕ
group_bit first second g j =
    pick (eqb g 0) 0
    (pick (eqb j 0) 1
    (pick (leb g 14) (data_bit first second g j)
    (pick (leb j 6) (check_bit first second j) 1)))

-- the frame of two words, bit by bit, and its image
abbrev pub frame_of : ℕ → ℕ → ℕ → ℕ
frame_of first second n = group_bit first second ((n - 1) / 8) ((n - 1) % 8)

unfoldable pub image_of : ℕ → ℕ → List ℕ
image_of first second = octets_of 16 (frame_of first second)
