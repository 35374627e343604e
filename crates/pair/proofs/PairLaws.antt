-- What opening and closing answer, check by check. Assumes nothing.
use mathlib.Core.Path.{◌≡◌, refl, sym, ap, ap₂, ◌∙◌}
use mathlib.Core.Bool.{true, false}
use mathlib.Core.List.{List, [], ◌∷◌, ◌++◌}
use Prim.Native.Nat.{ℕ}
use borrow.Author.Tests.{ne_eqb}
use lib.ListN.{length}
use Rattle.std.specs.Prelude.{Ok, Err, Option, Some}
use Rattle.layout.specs.Trouble.{Checked, nothing}
use Rattle.refusal.specs.Refusals.{numbered, success, bad_length, unknown_label, bad_pair}
use Rattle.refusal.specs.Checks.{Check, check, check_at, inside, first_refusal, answered}
use Rattle.refusal.specs.declared.Refusal.{Refusal}
use Rattle.frame.specs.Frame.{image_checks, verdict_of}
use Rattle.words.specs.Words.{image_of}
use Rattle.message.specs.Messages.{kind_of}
use Rattle.kind.specs.Labels.{labelled_of, is_known, kind_named}
use Rattle.message.specs.Codec.{content_trouble, message_in, content_of, message_trouble, message_word, encoded_of}
use Rattle.kind.specs.declared.Kind.{Kind}
use Rattle.message.specs.declared.Message.{Message}
use Rattle.pair.specs.Pairs.{pair_of}
use Rattle.pair.specs.Opening.{Opened, first_word, second_word, word_message, open_refusal, open_of, word_checks, open_words, open_contents}
use Rattle.pair.specs.Closing.{Closed, close_refusal, close_image}
use Rattle.refusal.proofs.CheckLaws.{more_refused, more_passed, answer_refused, Refuses, left_by, written_by}
use Rattle.message.proofs.CodecLaws.{content_good, content_refused, word_refused}

-- ---- opening: the frame's checks come first, then those of its words

module _ (image : List ℕ) where
  in_two : open_refusal image ≡ first_refusal (image_checks image ++ word_checks (first_word image) (second_word image))
  unfolding open_refusal
  in_two = refl

  pub open_refused : (r : Refusal) → r ≡ verdict_of image → (r.number ≡ success → ⊥) → Err r ≡ open_of image
  unfolding open_of verdict_of
  open_refused r e h =
      sym (answer_refused _ (in_two ∙ more_refused (image_checks image) (word_checks (first_word image) (second_word image)) refl (sym e) h) h)

  pub open_good : (verdict_of image).number ≡ success → open_words (first_word image) (second_word image) ≡ open_of image
  unfolding open_of open_words verdict_of
  open_good z =
      ap (λ (r : Refusal). answered r (word_message (first_word image), word_message (second_word image)))
      (sym (in_two ∙ more_passed (image_checks image) (word_checks (first_word image) (second_word image)) refl z))

-- ---- the words, by what their labels name

abbrev label_checks : Option Kind → Option Kind → ℕ → ℕ → List Check
label_checks a b v w =
    check_at (is_known a) unknown_label 1
    ∷ check_at (is_known b) unknown_label 2
    ∷ check (pair_of (kind_named a) (kind_named b)) bad_pair
    ∷ inside 1 (content_trouble (kind_named a) v)
    ∷ inside 2 (content_trouble (kind_named b) w)
    ∷ []

abbrev pub open_by : Option Kind → Option Kind → ℕ → ℕ → Opened
open_by a b v w = answered (first_refusal (label_checks a b v w)) (message_in (kind_named a) v, message_in (kind_named b) w)

pub words_by : (v w : ℕ) {a b : Option Kind} → labelled_of v ≡ a → labelled_of w ≡ b → open_by a b v w ≡ open_words v w
unfolding open_words
words_by v w e f = sym (ap₂ (λ (a b : Option Kind). open_by a b v w) e f)

pub no_pair : (k l : Kind) (v w : ℕ) → pair_of k l ≡ false → open_by (Some k) (Some l) v w ≡ Err (numbered bad_pair)
no_pair k l v w e = rw e

pub in_table : (k l : Kind) (v w : ℕ) → pair_of k l ≡ true → open_contents k l v w ≡ open_by (Some k) (Some l) v w
unfolding open_contents
in_table k l v w e = rw e

-- ---- the contents

module _ (k l : Kind) (v w : ℕ) where
  pub first_refused : (r : Refusal) → content_of 1 k v ≡ Err r → Err r ≡ open_contents k l v w
  unfolding open_contents
  first_refused r e = let p = content_refused 1 k v r e in sym (answer_refused (message_in k v, message_in l w) (p.1 (inside 2 (content_trouble l w) ∷ [])) p.0)

  module _ (m : Message) (e : content_of 1 k v ≡ Ok m) where
    pub second_refused : (r : Refusal) → content_of 2 l w ≡ Err r → Err r ≡ open_contents k l v w
    unfolding open_contents
    second_refused r f =
        let one = content_good 1 k v m e in
        let p = content_refused 2 l w r f in
        sym (answer_refused _ (ap (λ (t : Checked). first_refusal (inside 1 t ∷ inside 2 (content_trouble l w) ∷ [])) one.0 ∙ p.1 []) p.0)

    pub both_read : (n : Message) → content_of 2 l w ≡ Ok n → Ok (m, n) ≡ open_contents k l v w
    unfolding open_contents
    both_read n f = let one = content_good 1 k v m e in let two = content_good 2 l w n f in sym (rw (one.0, two.0, one.1, two.1))

-- ---- closing

module _ (first second : Message) (buffer : List ℕ) where
  pub close_length : (length buffer ≡ 16 → ⊥) → close_refusal first second buffer ≡ numbered bad_length
  unfolding close_refusal
  close_length h = rw (ne_eqb _ _ h)

  module _ (size : length buffer ≡ 16) where
    pub close_pair : pair_of (kind_of first) (kind_of second) ≡ false → close_refusal first second buffer ≡ numbered bad_pair
    unfolding close_refusal
    close_pair p = rw (size, p)

    module _ (paired : pair_of (kind_of first) (kind_of second) ≡ true) where
      pub first_unwritten : (r : Refusal) → encoded_of 1 first ≡ Err r → (close_refusal first second buffer ≡ r) × Refuses r
      unfolding close_refusal
      first_unwritten r e = let p = word_refused 1 first r e in (rw (size, paired) (p.1 (inside 2 (message_trouble second) ∷ [])), p.0)

      pub second_unwritten : message_trouble first ≡ nothing → (r : Refusal) → encoded_of 2 second ≡ Err r → (close_refusal first second buffer ≡ r) × Refuses r
      unfolding close_refusal
      second_unwritten one r e = let p = word_refused 2 second r e in (rw (size, paired, one) (p.1 []), p.0)

      pub close_good : message_trouble first ≡ nothing → message_trouble second ≡ nothing → close_refusal first second buffer ≡ numbered success
      unfolding close_refusal
      close_good one two = rw (size, paired, one, two)

  -- a refusal is answered, and the buffer stays; else the image stands in it
  pub closed_refused : (r : Refusal) → close_refusal first second buffer ≡ r → Refuses r → Closed first second buffer (Err r) buffer
  unfolding close_image
  closed_refused r e h = left_by (close_refusal first second buffer) _ buffer r e h

  pub closed_written : close_refusal first second buffer ≡ numbered success
      → Closed first second buffer (Ok tt) (image_of (message_word first) (message_word second))
  unfolding close_image
  closed_written e = written_by (close_refusal first second buffer) _ buffer e
