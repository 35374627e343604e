-- DEMAND 2: what opens closes to its zeroed image, which opens as the same pair and closes to itself; it is its own zeroed image exactly if
-- no absent mode's code has a digit left; which images open, exactly; a pair that closes opens again unchanged; and exactly the pairs of
-- the table with legal content close. Assumes nothing.
use mathlib.Core.Path.{◌≡◌, refl, sym, ap, ap₂, ◌∙◌}
use mathlib.Core.Bool.{Bool, true, false}
use mathlib.Core.List.{List, [], ◌∷◌}
use mathlib.Core.Logic.{◌↔◌}
use Prim.Native.Nat.{ℕ}
use native.Mathlib.Omega.{arith}
use borrow.Author.Tests.{eqb-true, eq-eqb}
use lib.ListN.{length}
use Rattle.std.specs.Prelude.{Ok, Err, Option, Some, None}
use Rattle.bits.specs.Tests.{both}
use Rattle.bits.specs.Octets.{AreOctets, bit_at}
use Rattle.layout.specs.Trouble.{Checked, nothing}
use Rattle.refusal.specs.Refusals.{numbered, success, bad_pair}
use Rattle.refusal.specs.Checks.{check, inside, first_refusal}
use Rattle.refusal.specs.declared.Refusal.{Refusal}
use Rattle.frame.specs.Frame.{good_frame, verdict_of}
use Rattle.words.specs.Words.{place_of, word_of, image_of}
use Rattle.message.specs.Messages.{kind_of}
use Rattle.kind.specs.Labels.{labelled_of, is_known, kind_named}
use Rattle.message.specs.Codec.{message_trouble, message_word}
use Rattle.kind.specs.declared.Kind.{Kind}
use Rattle.message.specs.declared.Message.{Message}
use Rattle.pair.specs.Pairs.{pair_of}
use Rattle.pair.specs.Opening.{is_labelled, word_kind, word_trouble, word_message, first_word, second_word, open_checks, open_refusal, open_of, open_words, open_contents}
use Rattle.pair.specs.Closing.{close_checks, close_refusal, close_image}
use Rattle.pair.specs.ZeroedImage.{message_of, zeroed_word, zeroed_image, Clear}
use Rattle.bits.proofs.TestLaws.{clash}
use Rattle.bits.proofs.OctetLaws.{bit_lt}
use Rattle.refusal.proofs.CheckLaws.{Passed, success_passed, passed_success, given, answer_is, answer_not, answer_refused, cause_number_lem}
use Rattle.frame.proofs.FrameLaws.{good_parts, verdict_good, verdict_image}
use Rattle.words.proofs.WordLaws.{image_good, length_image, image_first, image_second}
use Rattle.message.proofs.RoundTrip.{Writes, read_written, kind_read, written_read}
use Rattle.pair.proofs.ZeroedLaws.{zeroed_once, clear_own}
use Rattle.pair.proofs.PairLaws.{open_good, words_by, in_table, close_good, closed_written}

-- ---- a word whose label is known and whose content is legal

pub known_is : (l : Option Kind) → is_known l ≡ true → l ≡ Some (kind_named l)
known_is (Some k) e = refl
known_is None e = absurd (clash e refl)

module _ (first second : Message) where
  -- the pair is in the table, and v and w are its words
  record Words (v w : ℕ) : Type 0 where
    paired : pair_of (kind_of first) (kind_of second) ≡ true
    one : Writes first v
    two : Writes second w

  -- ---- an image that opens closes to its zeroed image

  module _ (image : List ℕ) (opens : open_of image ≡ Ok (first, second)) where
    answer : ((open_refusal image).number ≡ success) × ◌≡◌ {A = Message × Message} (word_message (first_word image), word_message (second_word image)) (first, second)
    unfolding open_of
    answer = answer_is _ (open_refusal image) (first, second) opens

    passed : Passed (open_checks image)
    unfolding open_refusal
    passed = success_passed (open_checks image) refl answer.0

    size : length image ≡ 16
    size = eqb-true _ _ passed.0

    good : good_frame (bit_at image) ≡ true
    unfolding good_frame
    good = let p = passed.1 in λ i. both (p.0 i) (both (p.1.0 i) (p.1.1.0 i))

    -- the message that is read from word k is written as that word, zeroed
    word_written : (k : ℕ) (m : Message)
        → word_message (word_of (bit_at image) k) ≡ m → is_labelled (word_of (bit_at image) k) ≡ true → word_trouble (word_of (bit_at image) k) ≡ nothing
        → Writes m (zeroed_word image k)
    word_written k m is label none =
        let v = word_of (bit_at image) k in
        read_written (message_of (bit_at image) k) (λ i. bit_lt image (place_of k i)) (word_kind v) m (known_is (labelled_of v) label) none is

    opened_words : Words (zeroed_word image 1) (zeroed_word image 2)
    opened_words =
        let p = passed.1.1.1.1 in
        let e = answer.1 in
        let a = ap (λ (p : Message × Message). p.0) e in
        let b = ap (λ (p : Message × Message). p.1) e in
        let kind_1 : kind_of first ≡ word_kind (first_word image) = sym (ap kind_of a) ∙ kind_read (word_kind (first_word image)) (first_word image) in
        let kind_2 : kind_of second ≡ word_kind (second_word image) = sym (ap kind_of b) ∙ kind_read (word_kind (second_word image)) (second_word image) in
        record {
          paired = ap₂ pair_of kind_1 kind_2 ∙ p.1.1.0;
          one = word_written 1 first a p.0 p.1.1.1.0;
          two = word_written 2 second b p.1.0 p.1.1.1.1.0;
        }

    pub opened_closes : (buffer : List ℕ) → length buffer ≡ 16
        → (close_refusal first second buffer ≡ numbered success) × (close_image first second buffer ≡ zeroed_image image)
    unfolding zeroed_image
    opened_closes buffer sixteen =
        let x = opened_words in
        let e = close_good first second buffer sixteen x.paired x.one.0 x.two.0 in
        (e, sym (closed_written first second buffer e).1 ∙ ap₂ image_of x.one.1 x.two.1)

  -- ---- exactly the pairs of the table with legal content close

  -- the pair is in the table, with legal content
  pub record Legal : Type 0 where
    pub paired : pair_of (kind_of first) (kind_of second) ≡ true
    pub one : message_trouble first ≡ nothing
    pub two : message_trouble second ≡ nothing

  pub legal_closes : Legal → (buffer : List ℕ) → length buffer ≡ 16 → close_refusal first second buffer ≡ numbered success
  legal_closes l buffer sixteen = close_good first second buffer sixteen l.paired l.one l.two

  pub closes_legal : (buffer : List ℕ) → close_refusal first second buffer ≡ numbered success → Legal
  unfolding close_refusal
  closes_legal buffer e =
      let p = success_passed (close_checks first second buffer) refl (ap (λ (r : Refusal). r.number) e) in
      record { paired = p.1.0; one = p.1.1.0; two = p.1.1.1.0 }

  -- ---- a pair that closes opens again unchanged

  closed_words : (v w : ℕ) → Words v w → open_words v w ≡ Ok (first, second)
  unfolding open_contents
  closed_words v w x =
      let a = written_read first v x.one in
      let b = written_read second w x.two in
      sym (words_by v w a.label b.label) ∙ sym (in_table (kind_of first) (kind_of second) v w x.paired) ∙ rw (a.content, b.content, a.message, b.message)

  pub closed_opens : (buffer : List ℕ) → close_refusal first second buffer ≡ numbered success → open_of (close_image first second buffer) ≡ Ok (first, second)
  closed_opens buffer e =
      let l = closes_legal buffer e in
      let v = message_word first in
      let w = message_word second in
      let x : Words v w = record { paired = l.paired; one = (l.one, refl); two = (l.two, refl) } in
      let s = image_of v w in
      let good : (verdict_of s).number ≡ success =
      ap (λ (r : Refusal). r.number) (verdict_image s (length_image v w)) ∙ eqb-true _ _ (verdict_good (bit_at s) ∙ image_good v w) in
      ap open_of (sym (closed_written first second buffer e).1)
      ∙ sym (open_good s good)
      ∙ ap₂ open_words (image_first v w (written_read first v x.one).short) (image_second v w (written_read second w x.two).short)
      ∙ closed_words v w x

-- ---- an image opens exactly if all of this is so, and then as its two messages

pub record Opening (image : List ℕ) : Type 0 where
  pub size : length image ≡ 16
  pub good : good_frame (bit_at image) ≡ true
  pub known_1 : is_labelled (first_word image) ≡ true
  pub known_2 : is_labelled (second_word image) ≡ true
  pub paired : pair_of (word_kind (first_word image)) (word_kind (second_word image)) ≡ true
  pub fine_1 : word_trouble (first_word image) ≡ nothing
  pub fine_2 : word_trouble (second_word image) ≡ nothing

pub opens_exactly : (image : List ℕ) → (open_of image ≡ Ok (word_message (first_word image), word_message (second_word image))) ↔ Opening image
unfolding open_of open_refusal
opens_exactly image = (to, from)
  where
    to : open_of image ≡ Ok (word_message (first_word image), word_message (second_word image)) → Opening image
    to e =
        let p = passed _ _ image e in
        let q = p.1.1.1.1 in
        record {
          size = size _ _ image e;
          good = good _ _ image e;
          known_1 = q.0;
          known_2 = q.1.0;
          paired = q.1.1.0;
          fine_1 = q.1.1.1.0;
          fine_2 = q.1.1.1.1.0;
        }

    from : Opening image → open_of image ≡ Ok (word_message (first_word image), word_message (second_word image))
    from o =
        let p = good_parts (bit_at image) o.good in
        given (open_refusal image) _ _
        (ap (λ (r : Refusal). r.number)
        (passed_success (open_checks image)
        (eq-eqb _ _ o.size, (p.0, (p.1, (p.2, (o.known_1, (o.known_2, (o.paired, (o.fine_1, (o.fine_2, tt)))))))))))

-- an image that opens does so as its two messages
pub opened_as : (first second : Message) (image : List ℕ) → open_of image ≡ Ok (first, second) → open_of image ≡ Ok (word_message (first_word image), word_message (second_word image))
opened_as first second image e = e ∙ ap Ok (sym (answer first second image e).1)

-- ---- 7, exactly: the pair is not in the table, where the checks before it are passed

module _ (t : Bool) (u v : Checked) where
  -- what is wrong inside a message has another number
  not_seven : (u v : Checked) → (first_refusal (inside 1 u ∷ inside 2 v ∷ [])).number ≡ bad_pair → ⊥
  not_seven (Err t) v e = omega (arith, cause_number_lem t.cause)
  not_seven (Ok u) (Err t) e = omega (arith, cause_number_lem t.cause)
  not_seven (Ok u) (Ok u') e = omega arith

  seven : (first_refusal (check t bad_pair ∷ inside 1 u ∷ inside 2 v ∷ []) ≡ numbered bad_pair) ↔ (t ≡ false)
  seven = go t
    where
      go : (t : Bool) → (first_refusal (check t bad_pair ∷ inside 1 u ∷ inside 2 v ∷ []) ≡ numbered bad_pair) ↔ (t ≡ false)
      go true = (λ e. absurd (not_seven u v (ap (λ (r : Refusal). r.number) e)), λ e. absurd (clash refl e))
      go false = (λ e. refl, λ e. refl)

pub seven_closed : (first second : Message) (buffer : List ℕ) → length buffer ≡ 16 → (close_refusal first second buffer ≡ numbered bad_pair) ↔ (pair_of (kind_of first) (kind_of second) ≡ false)
unfolding close_refusal
seven_closed first second buffer sixteen =
    let q = seven (pair_of (kind_of first) (kind_of second)) (message_trouble first) (message_trouble second) in
    let here : close_refusal first second buffer ≡ first_refusal (check (pair_of (kind_of first) (kind_of second)) bad_pair ∷ inside 1 (message_trouble first) ∷ inside 2 (message_trouble second) ∷ [])
    = rw (eq-eqb _ _ sixteen) in
    (λ e. q.0 (sym here ∙ e), λ e. here ∙ q.1 e)

module _ (image : List ℕ) (long : length image ≡ 16) (frame : good_frame (bit_at image) ≡ true) (one : is_labelled (first_word image) ≡ true) (two : is_labelled (second_word image) ≡ true) where
  here : open_refusal image
      ≡ first_refusal (check (pair_of (word_kind (first_word image)) (word_kind (second_word image))) bad_pair ∷ inside 1 (word_trouble (first_word image)) ∷ inside 2 (word_trouble (second_word image)) ∷ [])
  unfolding open_refusal
  here = let p = good_parts (bit_at image) frame in rw (eq-eqb _ _ long, p.0, p.1, p.2, one, two)

  pub seven_opened : (open_of image ≡ Err (numbered bad_pair)) ↔ (pair_of (word_kind (first_word image)) (word_kind (second_word image)) ≡ false)
  unfolding open_of
  seven_opened =
      let q = seven (pair_of (word_kind (first_word image)) (word_kind (second_word image))) (word_trouble (first_word image)) (word_trouble (second_word image)) in
      let value : Message × Message = (word_message (first_word image), word_message (second_word image)) in (
        λ e. q.0 (sym here ∙ (answer_not value (open_refusal image) (numbered bad_pair) e).0),
        λ e. answer_refused value (here ∙ q.1 e) (λ z. omega arith),
      )

-- ---- the zeroed image

module _ (first second : Message) where
  -- of an image that opens, it opens as the same pair
  pub zeroed_opens : (image : List ℕ) → open_of image ≡ Ok (first, second) → open_of (zeroed_image image) ≡ Ok (first, second)
  zeroed_opens image opens =
      let c = opened_closes first second image opens image (size first second image opens) in
      ap open_of (sym c.1) ∙ closed_opens first second image c.0

  -- and closes to itself
  pub zeroed_closes : (image : List ℕ) → open_of (zeroed_image image) ≡ Ok (first, second) → (buffer : List ℕ) → length buffer ≡ 16
      → (close_refusal first second buffer ≡ numbered success) × (close_image first second buffer ≡ zeroed_image image)
  zeroed_closes image opens buffer sixteen = let c = opened_closes first second (zeroed_image image) opens buffer sixteen in (c.0, c.1 ∙ zeroed_once image)

  module _ (image : List ℕ) (opens : open_of image ≡ Ok (first, second)) (octets : AreOctets image) (clear : Clear image) where
    -- an image that opens, and has no digit left in an absent mode's code, is its own zeroed image
    pub clear_zeroed : zeroed_image image ≡ image
    clear_zeroed = clear_own image (size first second image opens) octets (good first second image opens) clear
