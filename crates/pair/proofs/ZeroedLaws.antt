-- The zeroed image: its words and bits; zeroing twice; and which images are their own. Assumes nothing.
use mathlib.Core.Path.{◌≡◌, sym, ap, ap₂, subst, ◌∙◌}
use mathlib.Core.Bool.{true}
use mathlib.Core.List.{List}
use Prim.Native.Nat.{ℕ, ◌+◌, ◌^◌, ◌≤◌, ◌<◌}
use native.Mathlib.Omega.{arith}
use lib.Dec.{lit≤}
use lib.ListN.{length}
use Rattle.bits.specs.Octets.{AreOctets, bit_at}
use Rattle.frame.specs.Frame.{good_frame}
use Rattle.words.specs.Words.{place_of, word_of, message_bit, image_of}
use Rattle.message.specs.ZeroedMessage.{zeroed_bit, NoDigits}
use Rattle.pair.specs.ZeroedImage.{message_of, zeroed_word, zeroed_image, Clear}
use Rattle.bits.proofs.TestLaws.{by_lt}
use Rattle.bits.proofs.NumberLaws.{num_ext, num_lt}
use Rattle.bits.proofs.OctetLaws.{bit_lt}
use Rattle.words.proofs.WordLaws.{word_holds, image_first, image_second, image_back}
use Rattle.message.proofs.ZeroedLaws.{clear_stays, stays_clear, zeroed_lt, zeroed_ext, zeroed_twice}

module _ (image : List ℕ) where
  -- the bits of a message, as they came and zeroed
  came_lt : (k i : ℕ) → message_of (bit_at image) k i < 2
  came_lt k i = bit_lt image (place_of k i)

  bits_lt : (k i : ℕ) → zeroed_bit (message_of (bit_at image) k) i < 2
  bits_lt k = zeroed_lt (message_of (bit_at image) k) (came_lt k)

  pub zeroed_short : (k : ℕ) → zeroed_word image k < 2 ^ 49
  zeroed_short k = num_lt (λ i. zeroed_bit (message_of (bit_at image) k) (i + 1)) 49 (λ i _. bits_lt k (i + 1))

  -- the words of the zeroed image, and their bits
  zeroed_word_lem : (k : ℕ) → 1 ≤ k → k ≤ 2 → word_of (bit_at (zeroed_image image)) k ≡ zeroed_word image k
  unfolding zeroed_image
  zeroed_word_lem k h l =
      by_lt 1 k (λ q. let e : 2 ≡ k = omega arith in subst Back e (image_second _ _ (zeroed_short 2))) (λ q. let e : 1 ≡ k = omega arith in subst Back e (image_first _ _ (zeroed_short 1)))
    where
      Back : ℕ → Type 0
      Back n = word_of (bit_at (image_of (zeroed_word image 1) (zeroed_word image 2))) n ≡ zeroed_word image n

  zeroed_bit_lem : (k i : ℕ) → 1 ≤ k → k ≤ 2 → 1 ≤ i → i ≤ 49 → message_of (bit_at (zeroed_image image)) k i ≡ zeroed_bit (message_of (bit_at image) k) i
  zeroed_bit_lem k i h l m o =
      sym (word_holds (message_of (bit_at (zeroed_image image)) k) (λ i. bit_lt (zeroed_image image) (place_of k i)) i m o)
      ∙ ap (λ (w : ℕ). message_bit w i) (zeroed_word_lem k h l)
      ∙ word_holds (zeroed_bit (message_of (bit_at image) k)) (bits_lt k) i m o

  -- zeroing twice is zeroing once, of any octets
  word_again : (k : ℕ) → 1 ≤ k → k ≤ 2 → zeroed_word (zeroed_image image) k ≡ zeroed_word image k
  word_again k h l =
      num_ext _ _ 49
      (λ i n.
      zeroed_ext (message_of (bit_at (zeroed_image image)) k) (zeroed_bit (message_of (bit_at image) k)) (λ i p q. zeroed_bit_lem k i h l p q) (i + 1) (omega arith) (omega arith)
      ∙ zeroed_twice (message_of (bit_at image) k) (i + 1) (omega arith))

  pub zeroed_once : zeroed_image (zeroed_image image) ≡ zeroed_image image
  unfolding zeroed_image
  zeroed_once = ap₂ image_of (word_again 1 (lit≤ tt) (lit≤ tt)) (word_again 2 (lit≤ tt) (lit≤ tt))

  -- a good frame is its own zeroed image exactly if no digit is left in the code of an absent mode
  message_clear : zeroed_image image ≡ image → (k : ℕ) → 1 ≤ k → k ≤ 2 → NoDigits (message_of (bit_at image) k)
  message_clear e k h l =
      stays_clear (message_of (bit_at image) k) (λ i m o. sym (zeroed_bit_lem k i h l m o) ∙ ap (λ (s : List ℕ). message_of (bit_at s) k i) e)

  pub own_clear : zeroed_image image ≡ image → Clear image
  own_clear e = (message_clear e 1 (lit≤ tt) (lit≤ tt), message_clear e 2 (lit≤ tt) (lit≤ tt))

  clear_word : (k : ℕ) → NoDigits (message_of (bit_at image) k) → zeroed_word image k ≡ word_of (bit_at image) k
  clear_word k none = num_ext _ _ 49 (λ i n. clear_stays (message_of (bit_at image) k) none (i + 1) (omega arith) (omega arith))

  pub clear_own : length image ≡ 16 → AreOctets image → good_frame (bit_at image) ≡ true → Clear image → zeroed_image image ≡ image
  unfolding zeroed_image
  clear_own size octets good clear = ap₂ image_of (clear_word 1 clear.0) (clear_word 2 clear.1) ∙ image_back image size octets good
