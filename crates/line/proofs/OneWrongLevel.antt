-- ONE WRONG LEVEL (02, item 7; 001, Annex A, Appendix 3, paragraph 3). Take any good frame as sent, with the level before it, and change
-- any one of the 129 levels: the 128 bits decoded at that place are not a good frame. No claim is made of other alignments. Assumes
-- nothing.
use mathlib.Core.Path.{◌≡◌, refl, sym, ap, ap₂, ◌∙◌}
use mathlib.Core.Bool.{Bool, true, false}
use mathlib.Core.List.{List, [], ◌∷◌, ◌++◌}
use Prim.Native.Nat.{ℕ, suc, ◌+◌, ◌-◌, ◌*◌, ◌/◌, ◌%◌, ◌≤◌, ◌<◌}
use native.Mathlib.Omega.{arith}
use borrow.Author.Tests.{le-leb, lt-leb, eq-eqb, eqb-true, ne_eqb, le-ltb}
use lib.Dec.{eqb, leb}
use lib.ListN.{length, get_or, length-set}
use lib.Seq.{get_or-set_same, get_or-set_other}
use Rattle.bits.specs.Tests.{pick, both, every}
use Rattle.bits.specs.Numbers.{sum_of}
use Rattle.bits.specs.Octets.{bit_at, octets_of}
use Rattle.refusal.specs.Refusals.{numbered, success, bad_start, bad_mark, bad_check}
use Rattle.refusal.specs.declared.Refusal.{Refusal}
use Rattle.frame.specs.Frame.{start_good, marks_good, column_of, checks_good, good_frame, frame_verdict, verdict_of}
use Rattle.line.specs.Levels.{differ, kept, bits_of, decoded}
use Rattle.line.specs.Machine.{nothing_handed, answer_with, heard_of, run}
use Rattle.line.specs.Told.{last_frame, swap}
use Rattle.line.specs.Sending.{image_bits, send_refusal}
use Rattle.line.specs.WrongLevel.{changed_at, on_the_line, wrong_bits, turned, beside, refusal_at}
use Rattle.bits.proofs.TestLaws.{never_true, clash, both_false, between, in_between, by_lt, every_fails, every_all, every_at}
use Rattle.bits.proofs.NumberLaws.{sum_turned, length_tab}
use Rattle.bits.proofs.OctetLaws.{bit_lt, length_octets, bit_octets}
use Rattle.frame.proofs.FrameLaws.{by_tests, verdict_good, verdict_image, verdict_size, verdict_frame, verdict_ext, good_ext, start_zero, mark_one, final_one, column_odd}
use Rattle.line.proofs.WindowLaws.{Bits}
use Rattle.line.proofs.LevelLaws.{by_levels, bit_told, length_told, bits_behind, kept_append, kept_all, bits_at, bits_set, last_le}
use Rattle.line.proofs.SendingLaws.{by_verdict}
use Rattle.line.proofs.Holding.{bits_of_lem}
use Rattle.line.proofs.Demand3.{frame_in, ends_in, silent_on_last_bit, image_frame, sent_levels, sent_bits}

-- bits i and i + 1 are beside level i, and no others
is_beside : (i n : ℕ) → i ≤ n → n ≤ i + 1 → beside i n ≡ true
is_beside i n h l = between i (i + 1) n h l

beside_is : (i n : ℕ) → beside i n ≡ true → (i ≤ n) × (n ≤ i + 1)
beside_is i n e = in_between i (i + 1) n e

not_beside : (i n : ℕ) → (n ≡ i → ⊥) → (n ≡ i + 1 → ⊥) → beside i n ≡ false
not_beside i n h l = never_true _ (λ e. let p = beside_is i n e in h (omega arith))

-- ---- first step: a changed level turns the two bits beside it, and no other; at either end it turns one

differ_first : (a b : ℕ) → a ≤ 1 → b ≤ 1 → differ (swap a) b ≡ 1 - differ a b
differ_first = by_levels (λ a b. differ (swap a) b ≡ 1 - differ a b) refl refl refl refl

differ_second : (a b : ℕ) → a ≤ 1 → b ≤ 1 → differ a (swap b) ≡ 1 - differ a b
differ_second = by_levels (λ a b. differ a (swap b) ≡ 1 - differ a b) refl refl refl refl

swap_le : (l : ℕ) → l ≤ 1 → swap l ≤ 1
swap_le l h = rw (le-ltb 1 l h) (omega arith)

-- level i is changed, and no other
level_changes : (levels : List ℕ) (i : ℕ) → i < length levels → get_or (changed_at i levels) i 0 ≡ swap (get_or levels i 0)
level_changes levels i h = get_or-set_same levels i _ 0 h

level_stays : (levels : List ℕ) (i m : ℕ) → (m ≡ i → ⊥) → get_or (changed_at i levels) m 0 ≡ get_or levels m 0
level_stays levels i m d = get_or-set_other levels i m _ 0 d

pub changed_length : (levels : List ℕ) (i : ℕ) → length (changed_at i levels) ≡ length levels
changed_length levels i = length-set levels i _

module _ (levels : List ℕ) (all : Bits levels) (i : ℕ) where
  pub changed_levels : Bits (changed_at i levels)
  changed_levels = bits_set i _ (swap_le _ (bits_at all i)) all

  -- bit n is told by levels n - 1 and n
  pub bits_turned : i < length levels → (n : ℕ) → 1 ≤ n → n < length levels → frame_in (decoded (changed_at i levels)) n ≡ turned (beside i) (frame_in (decoded levels)) n
  bits_turned there n l h = told_after ∙ go (beside i n) refl ∙ ap (λ (x : ℕ). pick (beside i n) (1 - x) x) (sym told_before)
    where
      k : ℕ
      k = n - 1

      told_before : frame_in (decoded levels) n ≡ differ (get_or levels k 0) (get_or levels (suc k) 0)
      told_before = ap (λ (ls : List ℕ). frame_in (bits_of ls) n) (kept_all all) ∙ bit_told levels k (omega arith)

      told_after : frame_in (decoded (changed_at i levels)) n ≡ differ (get_or (changed_at i levels) k 0) (get_or (changed_at i levels) (suc k) 0)
      told_after = ap (λ (ls : List ℕ). frame_in (bits_of ls) n) (kept_all changed_levels) ∙ bit_told (changed_at i levels) k (omega (arith, changed_length levels i))

      changes : (m : ℕ) → m ≡ i → get_or (changed_at i levels) m 0 ≡ swap (get_or levels m 0)
      changes m e = rw e (level_changes levels i there)

      go : (t : Bool) → beside i n ≡ t → differ (get_or (changed_at i levels) k 0) (get_or (changed_at i levels) (suc k) 0)
          ≡ pick t (1 - differ (get_or levels k 0) (get_or levels (suc k) 0)) (differ (get_or levels k 0) (get_or levels (suc k) 0))
      go true e =
          let p = beside_is i n e in
          by_lt i n (λ lt. ap₂ differ (changes k (omega arith)) (level_stays levels i (suc k) (λ q. omega arith)) ∙ differ_first _ _ (bits_at all k) (bits_at all (suc k)))
          (λ le. ap₂ differ (level_stays levels i k (λ q. omega arith)) (changes (suc k) (omega arith)) ∙ differ_second _ _ (bits_at all k) (bits_at all (suc k)))
      go false e =
          ap₂ differ (level_stays levels i k (λ q. clash (is_beside i n (omega arith) (omega arith)) e))
          (level_stays levels i (suc k) (λ q. clash (is_beside i n (omega arith) (omega arith)) e))

-- ---- what a check column sees of turned bits

-- a one for each bit that is turned
abbrev pub one_for : (ℕ → Bool) → ℕ → ℕ
one_for which n = pick (which n) 1 0

-- its count changes by an odd number where an odd number of its bits is turned
pub column_turned : (which : ℕ → Bool) (b : ℕ → ℕ) → ((n : ℕ) → b n ≤ 1) → (j : ℕ)
    → (column_of (turned which b) j + column_of b j) % 2 ≡ column_of (one_for which) j % 2
column_turned which b bit j = sum_turned (λ g. which (8 * g + 9 + j)) (λ g. b (8 * g + 9 + j)) (λ g. bit (8 * g + 9 + j)) 15

-- where a check bit is told the level tells bit j of a group, 1 to 6, and column j has no other turned bit: computed at each level
abbrev column_rule : ℕ → Bool
column_rule i = pick (eqb (refusal_at i) bad_check) (eqb (column_of (one_for (beside i)) (i % 8 - 2 + 1)) 1) true

every_column : every column_rule 129 ≡ true
unfolding every sum_of
every_column = refl

one_in_column : (i : ℕ) → 8 < i → i < 127 → 1 < i % 8 → column_of (one_for (beside i)) (i % 8 - 2 + 1) ≡ 1
one_in_column i h l m =
    let told : refusal_at i ≡ bad_check = rw (lt-leb i 8 h, lt-leb 127 i l, lt-leb (i % 8) 1 m) in
    let one = eqb (column_of (one_for (beside i)) (i % 8 - 2 + 1)) 1 in
    eqb-true _ _ (sym (ap (λ (n : ℕ). pick (eqb n bad_check) one true) told) ∙ every_at column_rule 129 every_column i (omega arith))

-- ---- second step: two neighbouring bits of a good frame turned break the start group, a mark, the final one, or a check column

module _ (b : ℕ → ℕ) (bit : (n : ℕ) → b n ≤ 1) (good : good_frame b ≡ true) (i : ℕ) where
  touched : (n : ℕ) → i ≤ n → n ≤ i + 1 → turned (beside i) b n ≡ 1 - b n
  touched n h l = rw (is_beside i n h l)

  untouched : (n : ℕ) → (n ≡ i → ⊥) → (n ≡ i + 1 → ⊥) → turned (beside i) b n ≡ b n
  untouched n h l = rw (not_beside i n h l)

  -- up to level 8: a zero of the start group becomes a one
  pub start_breaks : i ≤ 8 → start_good (turned (beside i) b) ≡ false
  start_breaks h =
      every_fails _ 8 (i - 1) (omega arith)
      (ne_eqb (turned (beside i) b (i - 1 + 1)) 0 (λ e. omega (arith, e, touched (i - 1 + 1) (omega arith) (omega arith), start_zero b good (i - 1) (omega arith))))

  start_holds : 8 < i → start_good (turned (beside i) b) ≡ true
  start_holds h = every_all _ 8 (λ n l. eq-eqb _ 0 (untouched (n + 1) (λ e. omega arith) (λ e. omega arith) ∙ start_zero b good n l))

  -- beside a mark, from the seventh bit of the group before it on: the mark becomes a zero
  pub mark_breaks : 8 < i → i < 127 → i % 8 ≤ 1 → marks_good (turned (beside i) b) ≡ false
  mark_breaks h l m =
      let g = i / 8 - 1 in
      ap (λ (t : Bool). both t (eqb (turned (beside i) b 128) 1))
      (every_fails _ 15 g (omega arith)
      (ne_eqb (turned (beside i) b (8 * g + 9)) 1 (λ e. omega (arith, e, touched (8 * g + 9) (omega arith) (omega arith), mark_one b good g (omega arith)))))

  -- beside the final one: it becomes a zero
  pub final_breaks : 127 ≤ i → i ≤ 128 → marks_good (turned (beside i) b) ≡ false
  final_breaks h l =
      let marks = every (λ g. eqb (turned (beside i) b (8 * g + 9)) 1) 15 in
      ap (both marks) (ne_eqb (turned (beside i) b 128) 1 (λ e. omega (arith, e, touched 128 (omega arith) (omega arith), final_one b good))) ∙ both_false marks

  marks_hold : 8 < i → i < 127 → 1 < i % 8 → marks_good (turned (beside i) b) ≡ true
  marks_hold h l m =
      ap₂ both (every_all _ 15 (λ g k. eq-eqb _ 1 (untouched (8 * g + 9) (λ e. omega arith) (λ e. omega arith) ∙ mark_one b good g k)))
      (eq-eqb _ 1 (untouched 128 (λ e. omega arith) (λ e. omega arith) ∙ final_one b good))

  -- anywhere else: column j of the bit that the level tells has one turned bit, so its count is even
  pub check_breaks : 8 < i → i < 127 → 1 < i % 8 → checks_good (turned (beside i) b) ≡ false
  check_breaks h l m =
      let j = i % 8 - 2 in
      every_fails _ 6 j (omega arith)
      (ne_eqb (column_of (turned (beside i) b) (j + 1) % 2) 1
      (λ e. omega (arith, e, column_turned (beside i) b bit (j + 1), one_in_column i h l m, column_odd b good j (omega arith))))

  -- so the verdict is told by where the level lies
  pub neighbours_break : i ≤ 128 → frame_verdict (turned (beside i) b) ≡ numbered (refusal_at i)
  neighbours_break few =
      by_lt 8 i
      (λ h.
      by_lt i 127
      (λ l.
      by_lt 1 (i % 8)
      (λ m. by_tests _ (start_holds h) (marks_hold h l m) (check_breaks h l m) ∙ rw (lt-leb i 8 h, lt-leb 127 i l, lt-leb (i % 8) 1 m))
      (λ m. by_tests _ (start_holds h) (mark_breaks h l m) refl ∙ rw (lt-leb i 8 h, lt-leb 127 i l, le-leb (i % 8) 1 m)))
      (λ l. by_tests _ (start_holds h) (final_breaks l few) refl ∙ rw (lt-leb i 8 h, le-leb 127 i l)))
      (λ h. by_tests _ (start_breaks h) refl refl ∙ rw (le-leb i 8 h))

-- what is told is never success
never_success : (i : ℕ) → eqb (refusal_at i) success ≡ false
never_success i = go (leb i 8) (leb 127 i) (leb (i % 8) 1)
  where
    go : (s f m : Bool) → eqb (pick s bad_start (pick f bad_mark (pick m bad_mark bad_check))) success ≡ false
    go true f m = refl
    go false true m = refl
    go false false true = refl
    go false false false = refl

-- 129 levels decode to 128 bits
pub decoded_length : {levels : List ℕ} → Bits levels → length levels ≡ 129 → length (decoded levels) ≡ 128
decoded_length {levels} all many = ap (λ (ls : List ℕ). length (bits_of ls)) (kept_all all) ∙ omega (arith, length_told levels)

-- ---- the two together: a good image, sent after either level into a buffer of 128 octets

module _ (image : List ℕ) (good : verdict_of image ≡ numbered success) (previous : ℕ) (level : previous ≤ 1) (buffer : List ℕ) (room : length buffer ≡ 128) where
  sent : send_refusal image previous buffer ≡ numbered success
  sent = by_verdict image previous buffer (verdict_size image (ap (λ (r : Refusal). r.number) good)) room level ∙ good

  levels : Bits (on_the_line image previous buffer)
  levels = sent_levels image previous buffer sent

  bits : decoded (on_the_line image previous buffer) ≡ image_bits image
  bits = sent_bits image previous buffer sent

  size : length (on_the_line image previous buffer) ≡ 129
  size = omega (arith, ap length (sym (ap bits_of (kept_all levels)) ∙ bits) ∙ length_tab _ 128, length_told (on_the_line image previous buffer))

  -- level i, one of 0 to 128, is changed
  module _ (i : ℕ) (few : i ≤ 128) where
    pub wrong_levels : Bits (changed_at i (on_the_line image previous buffer))
    wrong_levels = changed_levels (on_the_line image previous buffer) levels i

    pub wrong_size : length (changed_at i (on_the_line image previous buffer)) ≡ 129
    wrong_size = changed_length (on_the_line image previous buffer) i ∙ size

    -- they decode to 128 bits: the image's, with those beside the level turned
    pub wrong_length : length (wrong_bits image previous buffer i) ≡ 128
    wrong_length = decoded_length wrong_levels wrong_size

    pub wrong_bits_lem : (n : ℕ) → 1 ≤ n → n ≤ 128 → last_frame (wrong_bits image previous buffer i) n ≡ turned (beside i) (bit_at image) n
    wrong_bits_lem n h l =
        ends_in [] (wrong_bits image previous buffer i) wrong_length n
        ∙ bits_turned (on_the_line image previous buffer) levels i (omega (arith, size)) n h (omega (arith, size))
        ∙ ap (λ (x : ℕ). pick (beside i n) (1 - x) x) (ap (λ (t : List ℕ). frame_in t n) bits ∙ image_frame image previous buffer sent n h l)

    -- the verdict on them, of the bits and of the image that they make
    verdict_told : frame_verdict (last_frame (wrong_bits image previous buffer i)) ≡ numbered (refusal_at i)
    verdict_told = verdict_ext _ _ wrong_bits_lem ∙ neighbours_break (bit_at image) (λ n. omega (arith, bit_lt image n)) (verdict_frame image good) i few

    pub which_refusal : verdict_of (octets_of 16 (last_frame (wrong_bits image previous buffer i))) ≡ numbered (refusal_at i)
    which_refusal =
        let b : ℕ → ℕ = last_frame (wrong_bits image previous buffer i) in
        let small : (n : ℕ) → b n < 2 = λ n. omega (arith, bits_at (bits_of_lem (kept (changed_at i (on_the_line image previous buffer)))) (length (wrong_bits image previous buffer i) - 128 + (n - 1))) in
        verdict_image (octets_of 16 b) (length_octets 16 b) ∙ verdict_ext _ _ (λ n h l. bit_octets 16 b small n h l) ∙ verdict_told

-- ---- THE THEOREM: of any good image that `send` writes after either level, any one of the 129 levels changed, the 128 bits are not a good
-- frame

pub one_wrong_level : (image : List ℕ) → verdict_of image ≡ numbered success → (previous : ℕ) → previous ≤ 1 → (buffer : List ℕ) → length buffer ≡ 128
    → (i : ℕ) → i ≤ 128 → (length (wrong_bits image previous buffer i) ≡ 128) × (good_frame (last_frame (wrong_bits image previous buffer i)) ≡ false)
one_wrong_level image good previous level buffer room i few = (
  wrong_length image good previous level buffer room i few,
  sym (verdict_good (last_frame (wrong_bits image previous buffer i)))
      ∙ ap (λ (r : Refusal). eqb r.number success) (verdict_told image good previous level buffer room i few)
      ∙ never_success i,
)

-- ---- what it means for a receiver

module _ (image : List ℕ) (good : verdict_of image ≡ numbered success) (previous : ℕ) (level : previous ≤ 1) (buffer : List ℕ) (room : length buffer ≡ 128)
    (i : ℕ) (few : i ≤ 128) where
  -- whatever it was fed before, it hands over nothing on the last of these levels
  pub nothing_heard : (before ls : List ℕ) (l : ℕ) → ls ++ l ∷ [] ≡ before ++ changed_at i (on_the_line image previous buffer)
      → heard_of (run ls) l ≡ answer_with (run (ls ++ l ∷ [])) success nothing_handed
  nothing_heard before ls l e =
      let wrong = changed_at i (on_the_line image previous buffer) in
      let all : Bits wrong = wrong_levels image good previous level buffer room i few in
      let some : 1 ≤ length wrong = omega (arith, wrong_size image good previous level buffer room i few) in
      let y = bits_behind (kept before) wrong some in
      let decodes : decoded (ls ++ l ∷ []) ≡ y.0 ++ decoded wrong =
      ap decoded e ∙ ap bits_of (kept_append before wrong ∙ ap (λ (t : List ℕ). kept before ++ t) (kept_all all)) ∙ y.1
      ∙ ap (λ (t : List ℕ). y.0 ++ bits_of t) (sym (kept_all all)) in
      let theorem = one_wrong_level image good previous level buffer room i few in
      silent_on_last_bit ls l y.0 (decoded wrong) (last_le before ls l all some e) decodes theorem.0
      (good_ext _ _ (λ n _ _. sym (ends_in [] (decoded wrong) theorem.0 n)) ∙ theorem.1)
