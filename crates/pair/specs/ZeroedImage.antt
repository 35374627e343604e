-- The image that an accepted image closes to (02, item 2): the same bits with absent modes' codes zeroed and the check bits worked anew. It
-- is said by bit numbers, and by no opening or closing.
use Rattle.std.specs.Prelude.{List, ℕ, ◌+◌}
use Rattle.bits.specs.Numbers.{num_of}
use Rattle.bits.specs.Octets.{bit_at}
use Rattle.words.specs.Words.{place_of, image_of}
use Rattle.message.specs.ZeroedMessage.{zeroed_bit, NoDigits}

-- bit i of message k of the frame b
abbrev pub message_of : (ℕ → ℕ) → ℕ → ℕ → ℕ
message_of b k i = b (place_of k i)

-- the word of message k, with the codes of its absent modes zeroed
abbrev pub zeroed_word : List ℕ → ℕ → ℕ
zeroed_word image k = num_of (λ i. zeroed_bit (message_of (bit_at image) k) (i + 1)) 49

-- the image of the two words so zeroed, whose check bits are worked from them
unfoldable pub zeroed_image : List ℕ → List ℕ
zeroed_image image = image_of (zeroed_word image 1) (zeroed_word image 2)

-- no digit is left in the code of an absent mode, in either message
abbrev pub Clear : List ℕ → Type 0
Clear image = NoDigits (message_of (bit_at image) 1) × NoDigits (message_of (bit_at image) 2)
