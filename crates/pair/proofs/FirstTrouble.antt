-- WHAT OPENING AND CLOSING TELL OF THE INSIDE OF A MESSAGE (02, item 4): a refusal of 12 to 15 names the first message that has a trouble,
-- and of its troubles the cause and the bit of the first: none begins at a lower bit. Assumes nothing.
use mathlib.Core.Path.{◌≡◌, refl, sym, ap, subst, ◌∙◌}
use mathlib.Core.List.{List, [], ◌∷◌}
use mathlib.Core.Logic.{◌⊎◌, inl, inr, ⊎_elim}
use Prim.Native.Nat.{ℕ, ◌+◌, ◌^◌, ◌<◌}
use lib.Dec.{lit≤}
use Rattle.std.specs.Prelude.{Ok, Err}
use Rattle.bits.specs.Octets.{bit_at}
use Rattle.layout.specs.Begins.{IsFirst}
use Rattle.layout.specs.declared.Cause.{Cause}
use Rattle.layout.specs.declared.Cause.TheVariants.{Pattern, Spare, Unused, TooWide}
use Rattle.layout.specs.Trouble.{Checked, nothing, wrong}
use Rattle.refusal.specs.Refusals.{inside_at}
use Rattle.refusal.specs.Checks.{inside, refusal_in}
use Rattle.words.specs.Words.{place_of, word_of}
use Rattle.kind.specs.Layouts.{layout_of}
use Rattle.message.specs.Messages.{kind_of, parts_of}
use Rattle.message.specs.Codec.{message_trouble}
use Rattle.message.specs.declared.Message.{Message}
use Rattle.pair.specs.Opening.{word_kind, word_message, word_trouble, first_word, second_word, open_checks, open_refusal, open_of}
use Rattle.pair.specs.Closing.{close_checks, close_refusal}
use Rattle.bits.proofs.NumberLaws.{num_lt}
use Rattle.bits.proofs.OctetLaws.{bit_lt}
use Rattle.layout.proofs.TroubleLaws.{begins_narrow, misfits_value}
use Rattle.refusal.proofs.CheckLaws.{InMessage, AllInMessage, Numbered, AllNumbered, Told, first_told, answer_tells}
use Rattle.message.proofs.FirstTrouble.{BeginsAt, content_first, content_bit, MisfitsAt, message_first, message_bit}

-- of two messages, whose troubles begin as P and as Q say, the first that has one is told, and its first trouble
abbrev pub FirstOfTwo : (Cause → ℕ → Type 0) → (Cause → ℕ → Type 0) → ℕ → Checked → Type 0
FirstOfTwo P Q place t = ((place ≡ 1) × IsFirst P t) ⊎ (IsFirst P nothing × (place ≡ 2) × IsFirst Q t)

two_told : (P Q : Cause → ℕ → Type 0) (t u : Checked) → IsFirst P t → IsFirst Q u → (place : ℕ) (c : Cause) (b : ℕ)
    → Told place c b (inside 1 t ∷ inside 2 u ∷ []) → FirstOfTwo P Q place (wrong c b)
two_told P Q t u f g place c b =
    ⊎_elim (λ p. inl (sym p.0, subst (IsFirst P) p.1 f))
    (λ p. ⊎_elim (λ q. inr (subst (IsFirst P) p.0 f, sym q.0, subst (IsFirst Q) q.1 g)) (λ q. absurd q.1) p.1)

-- ---- opening

-- a trouble begins in a word of an image, as a message of the kind that its label names
abbrev pub BeginsInside : ℕ → Cause → ℕ → Type 0
BeginsInside word = BeginsAt (word_kind word) word

-- what comes out of a word fits, so none is too wide
narrow : (word b : ℕ) → BeginsInside word TooWide b → ⊥
narrow word = begins_narrow 6 (layout_of (word_kind word)) word

word_number : (word : ℕ) → Numbered 12 14 (word_trouble word)
word_number word = go (word_trouble word) (content_first (word_kind word) word)
  where
    by : (c : Cause) (b : ℕ) → BeginsInside word c b → Numbered 12 14 (wrong c b)
    by Pattern b f = (lit≤ tt, lit≤ tt)
    by Spare b f = (lit≤ tt, lit≤ tt)
    by Unused b f = (lit≤ tt, lit≤ tt)
    by TooWide b f = absurd (narrow word b f)

    go : (t : Checked) → IsFirst (BeginsInside word) t → Numbered 12 14 t
    go (Ok u) f = tt
    go (Err t) f = by t.cause t.bit f.0

module _ (image : List ℕ) where
  -- a word of an image has no more than its 49 bits
  word_short : (k : ℕ) → word_of (bit_at image) k < 2 ^ 49
  word_short k = num_lt (λ i. bit_at image (place_of k (i + 1))) 49 (λ i _. bit_lt image (place_of k (i + 1)))

  word_bit : (k : ℕ) → InMessage (word_trouble (word_of (bit_at image) k))
  word_bit k = content_bit (word_kind (word_of (bit_at image) k)) (word_of (bit_at image) k) (word_short k)

  pub open_bits : AllInMessage (open_checks image)
  open_bits = (word_bit 1, (word_bit 2, tt))

  -- opening tells 12, 13 or 14
  pub open_numbers : AllNumbered 12 14 (open_checks image)
  open_numbers = (word_number (first_word image), (word_number (second_word image), tt))

  pub open_first : (place : ℕ) (c : Cause) (b : ℕ) → open_of image ≡ Err (inside_at place c b)
      → FirstOfTwo (BeginsInside (first_word image)) (BeginsInside (second_word image)) place (wrong c b)
  unfolding open_of open_refusal
  open_first place c b e =
      let v = first_word image in
      let w = second_word image in
      let tells = answer_tells (word_message v, word_message w) (open_checks image) refl in
      two_told (BeginsInside v) (BeginsInside w) (word_trouble v) (word_trouble w) (content_first (word_kind v) v) (content_first (word_kind w) w) place c b
      (first_told (open_checks image) refl place c b (sym tells ∙ ap refusal_in e)).1.1.1.1.1.1.1

-- ---- closing

-- a message holds no pattern and no spare bits
value : (m : Message) (c : Cause) (b : ℕ) → MisfitsAt m c b → (c ≡ Unused) ⊎ (c ≡ TooWide)
value m = misfits_value 6 (layout_of (kind_of m)) (parts_of m)

message_number : (m : Message) → Numbered 14 15 (message_trouble m)
message_number m = go (message_trouble m) (message_first m)
  where
    by : (c : Cause) (b : ℕ) → (c ≡ Unused) ⊎ (c ≡ TooWide) → Numbered 14 15 (wrong c b)
    by c b = ⊎_elim (λ e. subst (λ (x : Cause). Numbered 14 15 (wrong x b)) (sym e) (lit≤ tt, lit≤ tt)) (λ e. subst (λ (x : Cause). Numbered 14 15 (wrong x b)) (sym e) (lit≤ tt, lit≤ tt))

    go : (t : Checked) → IsFirst (MisfitsAt m) t → Numbered 14 15 t
    go (Ok u) f = tt
    go (Err t) f = by t.cause t.bit (value m t.cause t.bit f.0)

module _ (first second : Message) (buffer : List ℕ) where
  pub close_bits : AllInMessage (close_checks first second buffer)
  close_bits = (message_bit first, (message_bit second, tt))

  pub close_first : (place : ℕ) (c : Cause) (b : ℕ) → close_refusal first second buffer ≡ inside_at place c b
      → FirstOfTwo (MisfitsAt first) (MisfitsAt second) place (wrong c b)
  unfolding close_refusal
  close_first place c b e =
      two_told (MisfitsAt first) (MisfitsAt second) (message_trouble first) (message_trouble second) (message_first first) (message_first second) place c b
      (first_told (close_checks first second buffer) refl place c b e).1.1

  -- closing tells 14 or 15
  pub close_numbers : AllNumbered 14 15 (close_checks first second buffer)
  close_numbers = (message_number first, (message_number second, tt))
