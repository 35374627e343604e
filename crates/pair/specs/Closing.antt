-- Closing a pair into a buffer (01, 'Orders of checks'; 02, item 4).
use Rattle.std.specs.Prelude.{◌≡◌, List, [], ◌∷◌, ℕ, eqb, length, Result}
use Rattle.refusal.specs.Refusals.{bad_length, bad_pair}
use Rattle.refusal.specs.Checks.{Check, check, inside, first_refusal, on_success, answered}
use Rattle.refusal.specs.declared.Refusal.{Refusal}
use Rattle.words.specs.Words.{image_of}
use Rattle.message.specs.Messages.{kind_of}
use Rattle.message.specs.Codec.{message_trouble, message_word}
use Rattle.message.specs.declared.Message.{Message}
use Rattle.pair.specs.Pairs.{pair_of}

-- 2, 7, 14 or 15 first, 14 or 15 second
abbrev pub close_checks : Message → Message → List ℕ → List Check
close_checks first second buffer =
    check (eqb (length buffer) 16) bad_length
    ∷ check (pair_of (kind_of first) (kind_of second)) bad_pair
    ∷ inside 1 (message_trouble first)
    ∷ inside 2 (message_trouble second)
    ∷ []

unfoldable pub close_refusal : Message → Message → List ℕ → Refusal
close_refusal first second buffer = first_refusal (close_checks first second buffer)

-- what then stands in the buffer: the image, or on a refusal what stood there
unfoldable pub close_image : Message → Message → List ℕ → List ℕ
close_image first second buffer =
    on_success (close_refusal first second buffer) (image_of (message_word first) (message_word second)) buffer

-- the answer that comes back, and the buffer afterwards
abbrev pub Closed : Message → Message → List ℕ → Result (Unit {0}) Refusal → List ℕ → Type 0
Closed first second buffer answer after =
    (answer ≡ answered (close_refusal first second buffer) tt) × (after ≡ close_image first second buffer)
