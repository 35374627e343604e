-- A group's seven bits in its octet and in the word, and the octets that the code stores, which are the image of the two words. Assumes
-- nothing.
use mathlib.Core.Path.{◌≡◌, refl, sym, ap, ap₂, ◌∙◌}
use mathlib.Core.Bool.{Bool, true, false}
use mathlib.Core.List.{List}
use Prim.Native.Nat.{ℕ, ◌+◌, ◌-◌, ◌*◌, ◌/◌, ◌%◌, ◌^◌, ◌≤◌, ◌<◌}
use native.Mathlib.Nat.{mod-lt}
use native.Mathlib.Omega.{arith}
use borrow.Author.Tests.{le-leb, lt-leb}
use lib.Bits.{bit_and, bit_or, and_mask, mask_lt, or_shifted}
use lib.Dec.{leb, lit<}
use lib.ListN.{length, get_or, set}
use lib.Pow.{shr-shr}
use Rattle.bits.specs.Tests.{pick}
use Rattle.bits.specs.Numbers.{num_of, sum_of, tab, written, field_of}
use Rattle.bits.specs.Octets.{bit_at, octet_of, octets_of}
use Rattle.frame.specs.Frame.{column_of}
use Rattle.words.specs.Words.{place_of, data_bit, check_bit, frame_of, image_of}
use Rattle.words.specs.Packing.{data_group, mirrored_of, data_octet, message_stored, check_octet}
use Rattle.bits.proofs.NumberLaws.{low_bit, num_append, num_ext, num_lt, sum_ext, sum_more, as_tab, get_or-tab}
use Rattle.bits.proofs.OctetLaws.{bit_in, bit_octets}
use Rattle.words.proofs.WordLaws.{frame_lt, column_data}

-- ---- one group

-- a mark is not among the seven bits that are mirrored
mirrored_low : (x : ℕ) → mirrored_of (x % 2 ^ 7) ≡ mirrored_of x
mirrored_low x = num_ext _ _ 7 (λ i h. low_bit x 7 (6 - i) (omega arith))

mirrored_lt : (x : ℕ) → mirrored_of x < 2 ^ 7
mirrored_lt x = num_lt _ 7 (λ i h. mod-lt _ (lit< tt))

-- ---- what the table gives: t is what `mirroring` hands out

module _ (t : List ℕ) (mirroring : t ≡ tab mirrored_of 128) where
  table_at : (x : ℕ) → x < 128 → get_or t x 0 ≡ mirrored_of x
  table_at x h = ap (λ (l : List ℕ). get_or l x 0) mirroring ∙ get_or-tab mirrored_of 128 x h

  table_lt : (x : ℕ) → x < 128 → get_or t x 0 < 2 ^ 7
  table_lt x h = rw (table_at x h) (mirrored_lt x)

  pub seven_lt : (octet : ℕ) → get_or t (bit_and octet 127) 0 < 2 ^ 7
  seven_lt octet = table_lt (bit_and octet 127) (mask_lt octet 7)

  -- the seven bits of a group's octet, as the word has them
  pub group_read : (s : List ℕ) (k g n : ℕ) → n ≡ data_group k g → 1 ≤ g
      → get_or t (bit_and (get_or s n 0) 127) 0 ≡ num_of (λ i. bit_at s (place_of k (7 * (g - 1) + i + 1))) 7
  group_read s k g n e h =
      table_at (bit_and (get_or s n 0) 127) (mask_lt (get_or s n 0) 7) ∙ ap mirrored_of (and_mask (get_or s n 0) 7) ∙ mirrored_low (get_or s n 0)
      ∙ num_ext _ _ 7
      (λ i p.
      let weight : 6 - i ≡ 7 - (i + 1) = omega arith in
      let place : 8 * n + (i + 1) + 1 ≡ place_of k (7 * (g - 1) + i + 1) = omega arith in
      ap (λ (j : ℕ). get_or s n 0 / 2 ^ j % 2) weight ∙ sym (bit_in s n (i + 1) (omega arith)) ∙ ap (bit_at s) place)

  -- the seven bits of a word's group, as its octet has them
  pub group_written : (word g seven : ℕ) → seven ≡ field_of word (7 * (g - 1)) 7 → bit_or 128 (get_or t seven 0) ≡ data_octet word g
  group_written word g seven e =
      let low = 7 * (g - 1) in
      let small : seven < 128 = rw e (mod-lt _ (lit< tt)) in
      or_shifted 1 7 (get_or t seven 0) (table_lt seven small)
      ∙ ap (λ (x : ℕ). 128 + x)
      (table_at seven small ∙ ap mirrored_of e ∙ mirrored_low (word / 2 ^ low)
      ∙ num_ext _ _ 7
      (λ i h.
      let weight : low + (6 - i) ≡ low + (7 - i) - 1 = omega arith in
      ap (λ (x : ℕ). x % 2) (shr-shr word low (6 - i)) ∙ ap (λ (x : ℕ). word / 2 ^ x % 2) weight))

-- a word with a group more
pub group_more : (f : ℕ → ℕ) (g : ℕ) → 1 ≤ g → num_of (λ i. f (7 * (g - 1) + i)) 7 * 2 ^ (7 * (g - 1)) + num_of f (7 * (g - 1)) ≡ num_of f (7 * g)
group_more f g h =
    let e : 7 * (g - 1) + 7 ≡ 7 * g = omega arith in
    sym (num_append f (7 * (g - 1)) 7) ∙ ap (num_of f) e

-- ---- the image

-- sixteen octets with the start octet, the groups of two words and a 0 stored over them
abbrev pub stored : List ℕ → ℕ → ℕ → List ℕ
stored s a b = set (message_stored (message_stored (set s 0 0) 1 a) 2 b) 15 0

module _ (a b : ℕ) where
  -- the frame without its check group
  unchecked : ℕ → ℕ
  unchecked n = pick (leb n 120) (frame_of a b n) 0

  unchecked_lt : (n : ℕ) → unchecked n < 2
  unfolding unchecked
  unchecked_lt n = go (leb n 120)
    where
      go : (t : Bool) → pick t (frame_of a b n) 0 < 2
      go true = frame_lt a b n
      go false = lit< tt

  -- whatever there was before
  groups_stored : (s : List ℕ) → length s ≡ 16 → stored s a b ≡ octets_of 16 unchecked
  unfolding unchecked written tab octets_of num_of
  groups_stored s h = ap (λ (l : List ℕ). stored l a b) (as_tab 16 s h)

  stored_bit : (s : List ℕ) → length s ≡ 16 → (n : ℕ) → 1 ≤ n → n ≤ 128 → bit_at (stored s a b) n ≡ unchecked n
  stored_bit s h n l m = ap (λ (x : List ℕ). bit_at x n) (groups_stored s h) ∙ bit_octets 16 unchecked unchecked_lt n l m

  -- its columns have the data bits alone
  stored_column : (s : List ℕ) → length s ≡ 16 → (j : ℕ) → 1 ≤ j → j ≤ 6
      → column_of (bit_at (stored s a b)) j ≡ sum_of (λ g. data_bit a b (g + 1) j) 14
  unfolding unchecked
  stored_column s h j l m =
      let f : ℕ → ℕ = λ g. bit_at (stored s a b) (8 * g + 9 + j) in
      let last : f 14 ≡ 0 = stored_bit s h (8 * 14 + 9 + j) (omega arith) (omega arith) ∙ rw (lt-leb (8 * 14 + 9 + j) 120 (omega arith)) in
      let e : sum_of f 14 ≡ sum_of (λ g. data_bit a b (g + 1) j) 14 =
      sum_ext _ _ 14
      (λ g k.
      stored_bit s h (8 * g + 9 + j) (omega arith) (omega arith) ∙ rw (le-leb (8 * g + 9 + j) 120 (omega arith)) (column_data a b g j k l m)) in
      omega (arith, sum_more f 14)

  -- the last octet of the image
  check_last : octet_of (frame_of a b) 15 ≡ 129 + num_of (λ i. check_bit a b (6 - i)) 6 * 2
  unfolding num_of
  check_last = omega arith

  check_stored : (s : List ℕ) → length s ≡ 16 → check_octet (stored s a b) ≡ octet_of (frame_of a b) 15
  check_stored s h =
      ap (λ (n : ℕ). 129 + n * 2)
      (num_ext _ (λ i. check_bit a b (6 - i)) 6 (λ i l. ap (λ (n : ℕ). (n + 1) % 2) (stored_column s h (6 - i) (omega arith) (omega arith))))
      ∙ sym check_last

  with_check : set (octets_of 16 unchecked) 15 (octet_of (frame_of a b) 15) ≡ image_of a b
  unfolding unchecked octets_of tab image_of num_of
  with_check = refl

  pub image_stored : (s : List ℕ) → length s ≡ 16 → set (stored s a b) 15 (check_octet (stored s a b)) ≡ image_of a b
  image_stored s h = ap₂ (λ (l : List ℕ) (x : ℕ). set l 15 x) (groups_stored s h) (check_stored s h) ∙ with_check
