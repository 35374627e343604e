-- One word to one message and back (001, Annex C, Appendix 3; 01, 'Messages'; 02, item 4).
use Rattle.std.specs.Prelude.{List, ℕ, Result}
use Rattle.layout.specs.Layout.{split, join}
use Rattle.layout.specs.Trouble.{Checked, trouble, misfit}
use Rattle.layout.specs.Rules.{raw_of}
use Rattle.refusal.specs.Refusals.{troubled}
use Rattle.refusal.specs.Checks.{answered}
use Rattle.refusal.specs.declared.Refusal.{Refusal}
use Rattle.kind.specs.Layouts.{layout_of, whole_of}
use Rattle.kind.specs.declared.Kind.{Kind}
use Rattle.message.specs.Messages.{made_of, kind_of, parts_of}
use Rattle.message.specs.declared.Message.{Message}

-- ---- a word as a message of a kind

-- what is first wrong with the word, above its label
abbrev pub content_trouble : Kind → ℕ → Checked
content_trouble k word = trouble 6 (layout_of k) word

-- the message
abbrev pub message_in : Kind → ℕ → Message
message_in k word = made_of k (split 6 (layout_of k) word)

-- as message `place` of a frame: the message, or what is wrong inside it
unfoldable pub content_of : ℕ → Kind → ℕ → Result Message Refusal
content_of place k word = answered (troubled place (content_trouble k word)) (message_in k word)

-- ---- the word of a message

-- what is first wrong with its values
unfoldable pub message_trouble : Message → Checked
message_trouble msg = misfit 6 (layout_of (kind_of msg)) (parts_of msg)

-- the label, and its values above it
unfoldable pub message_word : Message → ℕ
message_word msg = join 0 (whole_of (kind_of msg)) (tt, parts_of msg)

-- as message `place` of a frame: the word, or what is wrong inside the message
unfoldable pub encoded_of : ℕ → Message → Result ℕ Refusal
encoded_of place msg = answered (troubled place (message_trouble msg)) (message_word msg)

-- ---- the values of its fields, as the code has them

abbrev pub values_of : Message → List ℕ
values_of msg = raw_of (layout_of (kind_of msg)) (parts_of msg)
