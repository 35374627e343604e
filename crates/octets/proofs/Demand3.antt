-- DEMAND 3 for the octet receiver, through the equality with the first; the same by positions in a run of octets; and the whole answer to
-- an octet. Assumes nothing.
use mathlib.Core.Path.{◌≡◌, refl, sym, ap, ap₂, ◌∙◌}
use mathlib.Core.Bool.{Bool, true, false}
use mathlib.Core.List.{List, [], ◌∷◌, ◌++◌}
use Prim.Native.Nat.{ℕ, zero, suc, ◌+◌, ◌-◌, ◌*◌, ◌≤◌, ◌<◌}
use native.Mathlib.Nat.{add-suc}
use native.Mathlib.Omega.{arith}
use borrow.Author.Tests.{lt-ltb, le-ltb, ltb-true, le-leb, lt-leb, leb-true, eq-eqb, ne_eqb}
use lib.Dec.{ltb, leb}
use lib.ListN.{length, get_or}
use Rattle.bits.specs.Tests.{both}
use Rattle.bits.specs.Octets.{AreOctets, bit_at, octets_of}
use Rattle.frame.specs.Frame.{good_frame, frame_at}
use Rattle.line.specs.Levels.{bits_of, decoded}
use Rattle.line.specs.Machine.{window_image}
use Rattle.line.specs.Told.{last_frame, ends_good, handed_from}
use Rattle.line.specs.Sending.{next, levels_after}
use Rattle.line.specs.declared.Handed.{Handed}
use Rattle.line.specs.declared.Window.{Window}
use Rattle.bits.proofs.TestLaws.{by_lt, both_true}
use Rattle.bits.proofs.NumberLaws.{length_tab, get_or-tab, tab_more}
use Rattle.bits.proofs.OctetLaws.{bit_lt, octets_ext}
use Rattle.frame.proofs.FrameLaws.{good_ext, apart}
use Rattle.line.proofs.WindowLaws.{Bits, more, bits_tab}
use Rattle.line.proofs.LevelLaws.{last_level, kept_all, bits_last, told_bits, levels_bits, levels_snoc}
use Rattle.line.proofs.Demand3.{demand3}
use Rattle.octets.specs.Feeding.{taken, end_bit, answer_at, fed_to, heard_at}
use Rattle.octets.specs.ToldOctets.{first_bits, first_from, good_bit, told_frame, octet_with, told_octet, handed_by, framed_at, handed_at}
use Rattle.octets.specs.declared.HeardOctet.{HeardOctet}
use Rattle.octets.proofs.AnswerLaws.{bit_le}
use Rattle.octets.proofs.Equality.{handed_means, equality}

-- ---- some levels decode to any octets' bits, so the equality speaks of every run of octets

module _ (octets : List ℕ) (n : ℕ) where
  -- the level 0 and those that tell the first n bits after it, and the level that tells one bit more
  abbrev levels : List ℕ
  levels = 0 ∷ levels_after 0 (first_bits octets n)

  abbrev last : ℕ
  last = next (last_level 0 (levels_after 0 (first_bits octets n))) (bit_at octets (n + 1))

  all_levels : levels ++ last ∷ [] ≡ 0 ∷ levels_after 0 (first_bits octets (suc n))
  all_levels =
      ap (λ (t : List ℕ). 0 ∷ t)
      (sym (levels_snoc 0 (first_bits octets n) (bit_at octets (n + 1))) ∙ ap (levels_after 0) (sym (tab_more (λ i. bit_at octets (i + 1)) n)))

  all_bits : Bits (first_bits octets (suc n))
  all_bits = bits_tab (λ i. bit_at octets (i + 1)) (suc n) (λ i. omega (arith, bit_lt octets (i + 1)))

  levels_are : Bits (levels ++ last ∷ [])
  levels_are = rw all_levels (more {b = 0} (omega arith) (levels_bits 0 (first_bits octets (suc n)) (omega arith)))

  last_level_lem : last ≤ 1
  last_level_lem = bits_last levels last levels_are

  levels_decode : decoded (levels ++ last ∷ []) ≡ first_bits octets (suc n)
  levels_decode = ap bits_of (kept_all levels_are ∙ all_levels) ∙ told_bits 0 (omega arith) all_bits

-- ---- by positions in a run of octets

-- the last 128 of the first n bits are the frame at position n - 128
last_bit : (octets : List ℕ) (n : ℕ) → 128 ≤ n → (m : ℕ) → 1 ≤ m → m ≤ 128 → last_frame (first_bits octets n) m ≡ frame_at octets (n - 128) m
last_bit octets n enough m a b =
    let e : n - 128 + (m - 1) + 1 ≡ n - 128 + m = omega arith in
    ap (λ (i : ℕ). get_or (first_bits octets n) (i - 128 + (m - 1)) 0) (length_tab (λ i. bit_at octets (i + 1)) n)
    ∙ get_or-tab (λ i. bit_at octets (i + 1)) n (n - 128 + (m - 1)) (omega arith)
    ∙ ap (bit_at octets) e

-- the first n bits end in a good frame exactly if they are 128 or more and the frame at position n - 128 is good
pub ends_at : (octets : List ℕ) (n : ℕ) → ends_good (first_bits octets n) ≡ both (leb 128 n) (good_frame (frame_at octets (n - 128)))
unfolding ends_good
ends_at octets n =
    let long : length (first_bits octets n) ≡ n = length_tab (λ i. bit_at octets (i + 1)) n in
    ap (λ (m : ℕ). both (leb 128 m) (good_frame (last_frame (first_bits octets n)))) long
    ∙ by_lt n 128
    (λ few. ap (λ (t : Bool). both t (good_frame (last_frame (first_bits octets n)))) (lt-leb 128 n few) ∙ sym (ap (λ (t : Bool). both t (good_frame (frame_at octets (n - 128)))) (lt-leb 128 n few)))
    (λ enough. ap (both (leb 128 n)) (good_ext _ _ (last_bit octets n enough)))

module _ (octets : List ℕ) (small : AreOctets octets) where
  -- At bit j of octet k the receiver hands over a frame exactly when the bits that have come end in a good one, and then that one.
  pub octets_told : (k j : ℕ) → 1 ≤ j → j ≤ 8 → handed_at (heard_at octets k) j ≡ handed_from (first_bits octets (8 * k + j))
  octets_told k zero p q = absurd (omega arith)
  octets_told k (suc i) p q =
      let n = 8 * k + i in
      let same : decoded (levels octets n ++ last octets n ∷ []) ≡ first_bits octets (8 * k + suc i) =
      levels_decode octets n ∙ ap (first_bits octets) (sym (add-suc (8 * k) i)) in
      sym (equality octets small (levels octets n) (last octets n) k (suc i) (last_level_lem octets n) p q same)
      ∙ ap handed_by (demand3 (levels octets n) (last octets n))
      ∙ rw (le-ltb 1 (last octets n) (last_level_lem octets n)) (ap handed_from same)

  -- so at bit j of octet k exactly if 128 bits have come and the frame that ends there is good
  pub octets_good : (k j : ℕ) → 1 ≤ j → j ≤ 8
      → framed_at (heard_at octets k) j ≡ both (leb 128 (8 * k + j)) (good_frame (frame_at octets (8 * k + j - 128)))
  octets_good k j p q = ap (λ (h : Handed). h.frame) (octets_told k j p q) ∙ ends_at octets (8 * k + j)

  -- each good frame is heard in the octet of its last bit, and at that bit
  pub heard_in_last_octet : (position k j : ℕ) → 1 ≤ j → j ≤ 8 → position + 128 ≡ 8 * k + j → good_frame (frame_at octets position) ≡ true
      → ((heard_at octets k).frame ≡ true) × ((heard_at octets k).bit ≡ j) × ((heard_at octets k).image ≡ octets_of 16 (frame_at octets position))
  heard_in_last_octet position k j p q at good =
      let e : 8 * k + j - 128 ≡ position = omega arith in
      let g : ends_good (first_bits octets (8 * k + j)) ≡ true =
      ends_at octets (8 * k + j)
      ∙ ap₂ both (le-leb 128 (8 * k + j) (omega arith)) (ap (λ (m : ℕ). good_frame (frame_at octets m)) e ∙ good) in
      handed_means (heard_at octets k) j
      (octets_told k j p q
      ∙ rw g
      (ap (λ (image : List ℕ). record { frame = true; image = image })
      (octets_ext 16 _ _ (λ n a b. last_bit octets (8 * k + j) (omega arith) n a b ∙ ap (λ (m : ℕ). frame_at octets m n) e))))

  -- a frame is handed over only where a good one ends, at one of bits 1 to 8
  framed_means : (k : ℕ) → (heard_at octets k).frame ≡ true
      → (1 ≤ (heard_at octets k).bit)
      × ((heard_at octets k).bit ≤ 8)
      × (128 ≤ 8 * k + (heard_at octets k).bit)
      × (good_frame (frame_at octets (8 * k + (heard_at octets k).bit - 128)) ≡ true)
  framed_means k f =
      let j = (heard_at octets k).bit in
      let least : 1 ≤ j = ltb-true 0 j f in
      let most : j ≤ 8 = bit_le (fed_to octets k).window (get_or octets k 0) in
      let b = both_true {a = leb 128 (8 * k + j)} {b = good_frame (frame_at octets (8 * k + j - 128))}
      (sym (octets_good k j least most) ∙ ap₂ both f (eq-eqb j j refl)) in
      (least, most, leb-true _ _ b.0, b.1)

  -- two frames that it hands over share no bit
  pub octets_apart : (k m : ℕ) → k < m → (heard_at octets k).frame ≡ true → (heard_at octets m).frame ≡ true
      → 8 * k + (heard_at octets k).bit + 128 ≤ 8 * m + (heard_at octets m).bit
  octets_apart k m l f g =
      let j = (heard_at octets k).bit in
      let i = (heard_at octets m).bit in
      let a = framed_means k f in
      let b = framed_means m g in
      omega (arith, apart (bit_at octets) (8 * k + j - 128) (8 * m + i - 128) a.3 b.3 (omega (arith, a.1, a.2, b.0, b.2)), a.2, b.2)

-- ---- the whole answer to an octet

first_none : (f : ℕ → Bool) (count from : ℕ) → ((j : ℕ) → from ≤ j → j < from + count → f j ≡ false) → first_from from count f ≡ 0
unfolding first_from
first_none f zero from h = refl
first_none f (suc n) from h = rw (h from (omega arith) (omega arith)) (first_none f n (suc from) (λ j p q. h j (omega arith) (omega arith)))

first_one : (f : ℕ → Bool) (count from j : ℕ) → from ≤ j → j < from + count → f j ≡ true → ((i : ℕ) → from ≤ i → i < j → f i ≡ false)
    → first_from from count f ≡ j
unfolding first_from
first_one f zero from j p q g h = absurd (omega arith)
first_one f (suc n) from j p q g h =
    by_lt from j
    (λ after. rw (h from (omega arith) after) (first_one f n (suc from) j after (omega arith) g (λ i a b. h i (omega arith) b)))
    (λ at.
    let e : from ≡ j = omega arith in
    rw (e, g))

module _ (octets : List ℕ) (small : AreOctets octets) where
  -- The whole answer to octet k is what the bits say: the bit at which a good frame ended and that frame, or no frame, 0 and zero octets.
  pub octets_demand3 : (k : ℕ) → heard_at octets k ≡ told_octet octets k
  unfolding fed_to
  octets_demand3 k = go (end_bit w o) refl
    where
      w : Window
      w = (fed_to octets k).window

      o : ℕ
      o = get_or octets k 0

      -- what the bits say, if they say bit b
      by : ℕ → HeardOctet
      by b = octet_with (fed_to octets (suc k)) b (told_frame octets k b)

      -- by bits, if the receiver answers bit b
      told : (b j : ℕ) → end_bit w o ≡ b → 1 ≤ j → j ≤ 8 → handed_at (answer_at w o b) j ≡ handed_from (first_bits octets (8 * k + j))
      told b j e p q = sym (ap (λ (b : ℕ). handed_at (answer_at w o b) j) e) ∙ octets_told octets small k j p q

      ends : (b j : ℕ) → end_bit w o ≡ b → 1 ≤ j → j ≤ 8 → ends_good (first_bits octets (8 * k + j)) ≡ framed_at (answer_at w o b) j
      ends b j e p q = sym (ap (λ (h : Handed). h.frame) (told b j e p q))

      go : (b : ℕ) → end_bit w o ≡ b → heard_at octets k ≡ told_octet octets k
      go zero e = ap (answer_at w o) e ∙ sym (ap by (first_none _ 8 1 (λ j p q. ends 0 j e p (omega arith))))
      go (suc i) e =
          let few : suc i ≤ 8 = omega (arith, bit_le w o) in
          let t : ltb 0 (suc i) ≡ true = lt-ltb 0 (suc i) (omega arith) in
          let held : handed_at (answer_at w o (suc i)) (suc i) ≡ record { frame = true; image = window_image (taken w o (suc i)) } = rw (t, eq-eqb (suc i) (suc i) refl) in
          let is : record { frame = true; image = window_image (taken w o (suc i)) } ≡ handed_from (first_bits octets (8 * k + suc i)) =
          sym held ∙ told (suc i) (suc i) e (omega arith) few in
          let g : ends_good (first_bits octets (8 * k + suc i)) ≡ true = sym (ap (λ (h : Handed). h.frame) is) in
          let first : good_bit octets k ≡ suc i =
          first_one _ 8 1 (suc i) (omega arith) (omega arith) g (λ j p q. ends (suc i) j e p (omega arith) ∙ ap₂ both t (ne_eqb (suc i) j (λ x. omega arith))) in
          ap (answer_at w o) e ∙ rw t (ap (octet_with (fed_to octets (suc k)) (suc i)) (is ∙ rw g)) ∙ sym (ap by first)
