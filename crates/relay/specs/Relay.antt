-- One relay step (02, item 6): an image is opened, each message that has a position is shifted, and the pair is closed into a buffer.
use Rattle.std.specs.Prelude.{◌≡◌, List, ◌∷◌, ◌++◌, ℕ, eqb, ℤ, length, Result}
use Rattle.refusal.specs.Refusals.{bad_length}
use Rattle.refusal.specs.Checks.{Check, check, first_refusal, on_success, answered}
use Rattle.refusal.specs.declared.Refusal.{Refusal}
use Rattle.words.specs.Words.{image_of}
use Rattle.message.specs.Codec.{message_word}
use Rattle.message.specs.declared.Message.{Message}
use Rattle.pair.specs.Opening.{first_word, second_word, word_message, open_checks}
use Rattle.shift.specs.Shift.{shifted_by, shift_checks}

-- the two messages of an image
abbrev pub first_message : List ℕ → Message
first_message image = word_message (first_word image)

abbrev pub second_message : List ℕ → Message
second_message image = word_message (second_word image)

-- 2 on the buffer; 2 X, 2 Y, 9 on X offsets, 9 on Y offsets; 9 on results, places 1 and 2 for the first message, 3 and 4 for the second
abbrev pub pair_checks : Message → Message → List ℤ → List ℤ → List ℕ → List Check
pair_checks first second xs ys buffer = check (eqb (length buffer) 16) bad_length ∷ shift_checks first second xs ys

-- opening's checks in their order, and then these
abbrev pub relay_checks : List ℕ → List ℤ → List ℤ → List ℕ → List Check
relay_checks image xs ys buffer = open_checks image ++ pair_checks (first_message image) (second_message image) xs ys buffer

unfoldable pub relay_refusal : List ℕ → List ℤ → List ℤ → List ℕ → Refusal
relay_refusal image xs ys buffer = first_refusal (relay_checks image xs ys buffer)

-- the image of two messages, each shifted by the sums of the lists
abbrev pub image_shifted : Message → Message → List ℤ → List ℤ → List ℕ
image_shifted first second xs ys = image_of (message_word (shifted_by xs ys first)) (message_word (shifted_by xs ys second))

-- what then stands in the buffer: that image, or on a refusal what stood there
unfoldable pub relay_image : List ℕ → List ℤ → List ℤ → List ℕ → List ℕ
relay_image image xs ys buffer = on_success (relay_refusal image xs ys buffer) (image_shifted (first_message image) (second_message image) xs ys) buffer

-- the answer that comes back, and the buffer afterwards
abbrev pub Relayed : List ℕ → List ℤ → List ℤ → List ℕ → Result (Unit {0}) Refusal → List ℕ → Type 0
Relayed image xs ys buffer answer after =
    (answer ≡ answered (relay_refusal image xs ys buffer) tt) × (after ≡ relay_image image xs ys buffer)
