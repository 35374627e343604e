-- Opening an image (01, 'Orders of checks'; 02, item 4).
use Rattle.std.specs.Prelude.{Bool, List, [], ◌∷◌, ℕ, eqb, length, Result}
use Rattle.bits.specs.Octets.{bit_at}
use Rattle.layout.specs.Trouble.{Checked}
use Rattle.refusal.specs.Refusals.{bad_length, bad_start, bad_mark, bad_check, unknown_label, bad_pair}
use Rattle.refusal.specs.Checks.{Check, check, check_at, inside, first_refusal, answered}
use Rattle.refusal.specs.declared.Refusal.{Refusal}
use Rattle.frame.specs.Frame.{start_good, marks_good, checks_good}
use Rattle.words.specs.Words.{word_of}
use Rattle.kind.specs.Labels.{labelled_of, is_known, kind_named}
use Rattle.message.specs.Codec.{content_trouble, message_in}
use Rattle.kind.specs.declared.Kind.{Kind}
use Rattle.message.specs.declared.Message.{Message}
use Rattle.pair.specs.Pairs.{pair_of}

-- ---- what is asked of the two words of a frame

-- the label is that of a kind
abbrev pub is_labelled : ℕ → Bool
is_labelled word = is_known (labelled_of word)

-- the kind that the label names
abbrev pub word_kind : ℕ → Kind
word_kind word = kind_named (labelled_of word)

-- what is first wrong with the content
abbrev pub word_trouble : ℕ → Checked
word_trouble word = content_trouble (word_kind word) word

-- the message
abbrev pub word_message : ℕ → Message
word_message word = message_in (word_kind word) word

-- ---- an image

-- the words of its two messages
abbrev pub first_word : List ℕ → ℕ
first_word image = word_of (bit_at image) 1

abbrev pub second_word : List ℕ → ℕ
second_word image = word_of (bit_at image) 2

-- 2, 3, 4, 5, 6 first message, 6 second, 7, 12 to 14 first, 12 to 14 second
abbrev pub open_checks : List ℕ → List Check
open_checks image =
    check (eqb (length image) 16) bad_length
    ∷ check (start_good (bit_at image)) bad_start
    ∷ check (marks_good (bit_at image)) bad_mark
    ∷ check (checks_good (bit_at image)) bad_check
    ∷ check_at (is_labelled (first_word image)) unknown_label 1
    ∷ check_at (is_labelled (second_word image)) unknown_label 2
    ∷ check (pair_of (word_kind (first_word image)) (word_kind (second_word image))) bad_pair
    ∷ inside 1 (word_trouble (first_word image))
    ∷ inside 2 (word_trouble (second_word image))
    ∷ []

unfoldable pub open_refusal : List ℕ → Refusal
open_refusal image = first_refusal (open_checks image)

-- what an image opens as: its two messages, or the refusal
abbrev pub Opened : Type 0
Opened = Result (Message × Message) Refusal

unfoldable pub open_of : List ℕ → Opened
open_of image = answered (open_refusal image) (word_message (first_word image), word_message (second_word image))

-- ---- the steps of the code

-- the words of a good frame, from the labels on
abbrev pub word_checks : ℕ → ℕ → List Check
word_checks v w =
    check_at (is_labelled v) unknown_label 1
    ∷ check_at (is_labelled w) unknown_label 2
    ∷ check (pair_of (word_kind v) (word_kind w)) bad_pair
    ∷ inside 1 (word_trouble v)
    ∷ inside 2 (word_trouble w)
    ∷ []

unfoldable pub open_words : ℕ → ℕ → Opened
open_words v w = answered (first_refusal (word_checks v w)) (word_message v, word_message w)

-- the contents of words of known kinds
unfoldable pub open_contents : Kind → Kind → ℕ → ℕ → Opened
open_contents k l v w =
    answered (first_refusal (inside 1 (content_trouble k v) ∷ inside 2 (content_trouble l w) ∷ [])) (message_in k v, message_in l w)
