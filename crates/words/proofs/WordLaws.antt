-- A frame's image and its two words: each gives the other. Assumes nothing.
use mathlib.Core.Path.{◌≡◌, refl, sym, ap, ap₂, ◌∙◌}
use mathlib.Core.Bool.{Bool, true, false}
use mathlib.Core.List.{List}
use Prim.Native.Nat.{ℕ, ◌+◌, ◌-◌, ◌*◌, ◌/◌, ◌%◌, ◌^◌, ◌≤◌, ◌<◌}
use native.Mathlib.Nat.{mod-lt, mod-eq_of_lt}
use native.Mathlib.Omega.{arith}
use borrow.Author.Tests.{ne_eqb, le-leb, lt-leb}
use lib.Dec.{eqb, leb, lit<, lit≤}
use lib.ListN.{length}
use Rattle.bits.specs.Tests.{pick}
use Rattle.bits.specs.Numbers.{num_of, sum_of}
use Rattle.bits.specs.Octets.{AreOctets, bit_at, octets_of}
use Rattle.frame.specs.Frame.{column_of, good_frame}
use Rattle.words.specs.Words.{place_of, word_of, message_bit, data_bit, check_bit, group_bit, frame_of, image_of}
use Rattle.bits.proofs.TestLaws.{by_lt}
use Rattle.bits.proofs.NumberLaws.{num_ext, num_of_lem, num_bit, sum_ext, sum_more}
use Rattle.bits.proofs.OctetLaws.{bit_lt, bit_octets, length_octets, octets_bits, octets_ext}
use Rattle.frame.proofs.FrameLaws.{good_ext, good_by, start_zero, mark_one, final_one, column_odd}

-- ---- the frame of two words, bit by bit

module _ (a b : ℕ) where
  -- the word of message k
  abbrev message_of : ℕ → ℕ
  message_of k = pick (leb k 1) a b

  -- frame bit n is bit j of group g
  frame_at : (n g j : ℕ) → (n - 1) / 8 ≡ g → (n - 1) % 8 ≡ j → frame_of a b n ≡ group_bit a b g j
  frame_at n g j eg ej = ap₂ (group_bit a b) eg ej

  group_mark : (g : ℕ) → 1 ≤ g → group_bit a b g 0 ≡ 1
  group_mark g h = rw (ne_eqb g 0 (λ e. omega arith))

  group_data : (g j : ℕ) → 1 ≤ g → g ≤ 14 → 1 ≤ j → group_bit a b g j ≡ data_bit a b g j
  group_data g j h l k = rw (ne_eqb g 0 (λ e. omega arith), ne_eqb j 0 (λ e. omega arith), le-leb g 14 l)

  group_check : (j : ℕ) → 1 ≤ j → j ≤ 6 → group_bit a b 15 j ≡ check_bit a b j
  group_check j h l = rw (ne_eqb j 0 (λ e. omega arith), le-leb j 6 l)

  -- group m + 1 of message k
  data_of : (k m j : ℕ) → 1 ≤ k → k ≤ 2 → m < 7 → data_bit a b (7 * (k - 1) + m + 1) j ≡ message_bit (message_of k) (7 * m + j)
  data_of k m j h l n =
      let e : (7 * (k - 1) + m + 1 - 1) % 7 ≡ m = omega arith in
      ap₂ (λ (t : Bool) (i : ℕ). message_bit (pick t a b) (7 * i + j)) (by_lt 1 k later first) e
    where
      later : 1 < k → leb (7 * (k - 1) + m + 1) 7 ≡ leb k 1
      later q = lt-leb (7 * (k - 1) + m + 1) 7 (omega arith) ∙ sym (lt-leb k 1 q)

      first : k ≤ 1 → leb (7 * (k - 1) + m + 1) 7 ≡ leb k 1
      first q = le-leb (7 * (k - 1) + m + 1) 7 (omega arith) ∙ sym (le-leb k 1 q)

  -- bit j of the data groups, as a column has them
  pub column_data : (g j : ℕ) → g < 14 → 1 ≤ j → j ≤ 6 → frame_of a b (8 * g + 9 + j) ≡ data_bit a b (g + 1) j
  column_data g j h k l = frame_at (8 * g + 9 + j) (g + 1) j (omega arith) (omega arith) ∙ group_data (g + 1) j (omega arith) (omega arith) k

  pub frame_check : (j : ℕ) → 1 ≤ j → j ≤ 6 → frame_of a b (121 + j) ≡ check_bit a b j
  frame_check j h l = frame_at (121 + j) 15 j (omega arith) (omega arith) ∙ group_check j h l

  pub frame_lt : (n : ℕ) → frame_of a b n < 2
  frame_lt n = go (eqb ((n - 1) / 8) 0) (eqb ((n - 1) % 8) 0) (leb ((n - 1) / 8) 14) (leb ((n - 1) % 8) 6)
    where
      go : (s m d k : Bool) → pick s 0 (pick m 1 (pick d (data_bit a b ((n - 1) / 8) ((n - 1) % 8)) (pick k (check_bit a b ((n - 1) % 8)) 1))) < 2
      go true m d k = lit< tt
      go false true d k = lit< tt
      go false false true k = mod-lt _ (lit< tt)
      go false false false true = mod-lt _ (lit< tt)
      go false false false false = lit< tt

  -- ---- the frame of two words is good

  pub frame_good : good_frame (frame_of a b) ≡ true
  frame_good =
      good_by (frame_of a b)
      (λ n h. frame_at (n + 1) 0 n (omega arith) (omega arith))
      (λ g h. frame_at (8 * g + 9) (g + 1) 0 (omega arith) (omega arith) ∙ group_mark (g + 1) (omega arith))
      refl
      (λ j h l. frame_check j h l ∙ ap (λ (n : ℕ). (n + 1) % 2) (sym (sum_ext _ _ 14 (λ g k. column_data g j k h l))))

  -- ---- and gives both words back

  word_bit : (k i : ℕ) → 1 ≤ k → k ≤ 2 → i < 49 → frame_of a b (place_of k (i + 1)) ≡ message_of k / 2 ^ i % 2
  word_bit k i h l m =
      let g = 7 * (k - 1) + i / 7 + 1 in
      let e : 7 * (i / 7) + (i % 7 + 1) - 1 ≡ i = omega arith in
      frame_at (place_of k (i + 1)) g (i % 7 + 1) (omega arith) (omega arith) ∙ group_data g (i % 7 + 1) (omega arith) (omega arith) (omega arith)
      ∙ data_of k (i / 7) (i % 7 + 1) h l (omega arith) ∙ ap (λ (n : ℕ). message_of k / 2 ^ n % 2) e

  word_back : (k : ℕ) → 1 ≤ k → k ≤ 2 → message_of k < 2 ^ 49 → word_of (frame_of a b) k ≡ message_of k
  word_back k h l m = num_ext _ (λ i. message_of k / 2 ^ i % 2) 49 (λ i n. word_bit k i h l n) ∙ num_of_lem (message_of k) 49 ∙ mod-eq_of_lt m

-- ---- a good frame is that of its words

-- bit i of the word that 49 bits make
pub word_holds : (c : ℕ → ℕ) → ((i : ℕ) → c i < 2) → (i : ℕ) → 1 ≤ i → i ≤ 49 → message_bit (num_of (λ m. c (m + 1)) 49) i ≡ c i
word_holds c bits i h l =
    let e : i - 1 + 1 ≡ i = omega arith in
    num_bit (λ m. c (m + 1)) 49 (i - 1) (λ m. bits (m + 1)) (omega arith) ∙ ap c e

read_bit : (f : ℕ → ℕ) → ((n : ℕ) → f n < 2) → (k i : ℕ) → 1 ≤ i → i ≤ 49 → message_bit (word_of f k) i ≡ f (place_of k i)
read_bit f bits k = word_holds (λ i. f (place_of k i)) (λ i. bits (place_of k i))

module _ (f : ℕ → ℕ) (bits : (n : ℕ) → f n < 2) (good : good_frame f ≡ true) where
  words_of : (k : ℕ) → 1 ≤ k → k ≤ 2 → message_of (word_of f 1) (word_of f 2) k ≡ word_of f k
  words_of k h l =
      by_lt 1 k (λ q. let e : 2 ≡ k = omega arith in rw (lt-leb k 1 q) (ap (word_of f) e)) (λ q. let e : 1 ≡ k = omega arith in rw (le-leb k 1 q) (ap (word_of f) e))

  data_same : (g j : ℕ) → 1 ≤ g → g ≤ 14 → 1 ≤ j → j ≤ 7 → data_bit (word_of f 1) (word_of f 2) g j ≡ f (8 * g + 1 + j)
  data_same g j h l k m =
      let n = (g - 1) / 7 + 1 in
      let r = (g - 1) % 7 in
      let eg : g ≡ 7 * (n - 1) + r + 1 = omega arith in
      let ep : place_of n (7 * r + j) ≡ 8 * g + 1 + j = omega arith in
      ap (λ (x : ℕ). data_bit (word_of f 1) (word_of f 2) x j) eg
      ∙ data_of (word_of f 1) (word_of f 2) n r j (omega arith) (omega arith) (omega arith)
      ∙ ap (λ (x : ℕ). message_bit x (7 * r + j)) (words_of n (omega arith) (omega arith))
      ∙ read_bit f bits n (7 * r + j) (omega arith) (omega arith) ∙ ap f ep

  check_same : (j : ℕ) → 1 ≤ j → j ≤ 6 → check_bit (word_of f 1) (word_of f 2) j ≡ f (121 + j)
  check_same j h l =
      let c : ℕ → ℕ = λ g. f (8 * g + 9 + j) in
      let e : sum_of (λ g. data_bit (word_of f 1) (word_of f 2) (g + 1) j) 14 ≡ sum_of c 14 =
      sum_ext _ _ 14 (λ g k. data_same (g + 1) j (omega arith) (omega arith) h (omega arith) ∙ (let q : 8 * (g + 1) + 1 + j ≡ 8 * g + 9 + j = omega arith in ap f q)) in
      let j₁ : j - 1 + 1 ≡ j = omega arith in
      let o : column_of f j % 2 ≡ 1 = ap (λ (n : ℕ). column_of f n % 2) (sym j₁) ∙ column_odd f good (j - 1) (omega arith) in
      omega (arith, e, o, sum_more c 14, bits (121 + j))

  frame_same : (n : ℕ) → 1 ≤ n → n ≤ 128 → frame_of (word_of f 1) (word_of f 2) n ≡ f n
  frame_same n h l = by_lt n 9 start (λ p. by_lt 0 ((n - 1) % 8) (inside p) (mark p))
    where
      start : n < 9 → frame_of (word_of f 1) (word_of f 2) n ≡ f n
      start p =
          let e : n - 1 + 1 ≡ n = omega arith in
          frame_at (word_of f 1) (word_of f 2) n 0 (n - 1) (omega arith) (omega arith) ∙ sym (start_zero f good (n - 1) (omega arith)) ∙ ap f e

      mark : 9 ≤ n → (n - 1) % 8 ≤ 0 → frame_of (word_of f 1) (word_of f 2) n ≡ f n
      mark p q =
          let g = (n - 1) / 8 in
          let e : 8 * (g - 1) + 9 ≡ n = omega arith in
          frame_at (word_of f 1) (word_of f 2) n g 0 refl (omega arith) ∙ group_mark (word_of f 1) (word_of f 2) g (omega arith)
          ∙ sym (mark_one f good (g - 1) (omega arith)) ∙ ap f e

      inside : 9 ≤ n → 0 < (n - 1) % 8 → frame_of (word_of f 1) (word_of f 2) n ≡ f n
      inside p q =
          let g = (n - 1) / 8 in
          let j = (n - 1) % 8 in
          by_lt n 121
          (λ k.
          let e : 8 * g + 1 + j ≡ n = omega arith in
          group_data (word_of f 1) (word_of f 2) g j (omega arith) (omega arith) (omega arith)
          ∙ data_same g j (omega arith) (omega arith) (omega arith) (omega arith) ∙ ap f e)
          (λ k.
          by_lt n 128
          (λ m.
          let e : 121 + j ≡ n = omega arith in
          frame_at (word_of f 1) (word_of f 2) n 15 j (omega arith) refl ∙ group_check (word_of f 1) (word_of f 2) j (omega arith) (omega arith)
          ∙ check_same j (omega arith) (omega arith) ∙ ap f e)
          (λ m.
          let e : 128 ≡ n = omega arith in
          frame_at (word_of f 1) (word_of f 2) n 15 7 (omega arith) (omega arith) ∙ sym (final_one f good) ∙ ap f e))

  -- so the image of its words has its bits
  pub image_frame : image_of (word_of f 1) (word_of f 2) ≡ octets_of 16 f
  unfolding image_of
  image_frame = octets_ext 16 (frame_of (word_of f 1) (word_of f 2)) f frame_same

-- ---- the same of images

module _ (first second : ℕ) where
  image_bit : (n : ℕ) → 1 ≤ n → n ≤ 128 → bit_at (image_of first second) n ≡ frame_of first second n
  unfolding image_of
  image_bit n h l = bit_octets 16 (frame_of first second) (frame_lt first second) n h l

  -- the image of two words is good
  pub image_good : good_frame (bit_at (image_of first second)) ≡ true
  image_good = good_ext _ _ image_bit ∙ frame_good first second

  pub length_image : length (image_of first second) ≡ 16
  unfolding image_of
  length_image = length_octets 16 (frame_of first second)

  image_word : (k : ℕ) → 1 ≤ k → k ≤ 2 → message_of first second k < 2 ^ 49 → word_of (bit_at (image_of first second)) k ≡ message_of first second k
  image_word k h l m =
      num_ext _ _ 49 (λ i n. image_bit (place_of k (i + 1)) (omega arith) (omega arith)) ∙ word_back first second k h l m

  -- and gives both words back
  pub image_first : first < 2 ^ 49 → word_of (bit_at (image_of first second)) 1 ≡ first
  image_first h = image_word 1 (lit≤ tt) (lit≤ tt) h

  pub image_second : second < 2 ^ 49 → word_of (bit_at (image_of first second)) 2 ≡ second
  image_second h = image_word 2 (lit≤ tt) (lit≤ tt) h

module _ (image : List ℕ) (size : length image ≡ 16) (octets : AreOctets image) (good : good_frame (bit_at image) ≡ true) where
  -- a good image is the image of its words
  pub image_back : image_of (word_of (bit_at image) 1) (word_of (bit_at image) 2) ≡ image
  image_back = image_frame (bit_at image) (bit_lt image) good ∙ octets_bits image 16 size octets
