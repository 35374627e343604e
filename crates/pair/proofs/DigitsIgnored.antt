-- WHAT ITEM 2 SAYS OF OPENING (02): an absent mode's code bits are ignored. A good frame opens as its zeroed image does, refused ones too.
-- Assumes nothing.
use mathlib.Core.Path.{◌≡◌, sym, ap, ap₂, ◌∙◌}
use mathlib.Core.List.{List, [], ◌∷◌}
use Prim.Native.Nat.{ℕ}
use borrow.Author.Tests.{eqb-true}
use Rattle.bits.specs.Octets.{bit_at}
use Rattle.refusal.specs.Refusals.{numbered, success, unknown_label, bad_pair}
use Rattle.refusal.specs.Checks.{check, check_at, inside, first_refusal, answered}
use Rattle.refusal.specs.declared.Refusal.{Refusal}
use Rattle.frame.specs.Frame.{verdict_of}
use Rattle.words.specs.Words.{place_of, word_of, image_of}
use Rattle.kind.specs.Labels.{is_known, kind_named}
use Rattle.pair.specs.Pairs.{pair_of}
use Rattle.pair.specs.Opening.{first_word, second_word, open_of, open_words}
use Rattle.pair.specs.ZeroedImage.{message_of, zeroed_word, zeroed_image}
use Rattle.bits.proofs.OctetLaws.{bit_lt}
use Rattle.frame.proofs.FrameLaws.{verdict_good, verdict_image}
use Rattle.words.proofs.WordLaws.{image_good, length_image, image_first, image_second}
use Rattle.message.proofs.RoundTrip.{ReadAlike, digits_unread}
use Rattle.pair.proofs.ZeroedLaws.{zeroed_short}
use Rattle.pair.proofs.PairLaws.{open_good}

-- words of which the same is read open alike
alike_open : (v w x y : ℕ) → ReadAlike v x → ReadAlike w y → open_words v w ≡ open_words x y
unfolding open_words
alike_open v w x y (lv, tv, mv) (lw, tw, mw) =
    λ i.
    answered (first_refusal
    (check_at (is_known (lv i)) unknown_label 1
    ∷ check_at (is_known (lw i)) unknown_label 2
    ∷ check (pair_of (kind_named (lv i)) (kind_named (lw i))) bad_pair
    ∷ inside 1 (tv i)
    ∷ inside 2 (tw i)
    ∷ [])) (mv i, mw i)

module _ (image : List ℕ) (good : verdict_of image ≡ numbered success) where
  alike : (k : ℕ) → ReadAlike (zeroed_word image k) (word_of (bit_at image) k)
  alike k = digits_unread (message_of (bit_at image) k) (λ i. bit_lt image (place_of k i))

  pub digits_ignored : open_of image ≡ open_of (zeroed_image image)
  unfolding zeroed_image
  digits_ignored =
      let v = zeroed_word image 1 in
      let w = zeroed_word image 2 in
      let s = image_of v w in
      let fine : (verdict_of s).number ≡ success =
      ap (λ (r : Refusal). r.number) (verdict_image s (length_image v w)) ∙ eqb-true _ _ (verdict_good (bit_at s) ∙ image_good v w) in
      sym (open_good image (ap (λ (r : Refusal). r.number) good))
      ∙ sym (alike_open v w (first_word image) (second_word image) (alike 1) (alike 2))
      ∙ sym (ap₂ open_words (image_first v w (zeroed_short image 1)) (image_second v w (zeroed_short image 2)))
      ∙ open_good s fine
