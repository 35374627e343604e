-- Laws of frames. Assumes nothing.
use mathlib.Core.Path.{◌≡◌, refl, sym, ap, ap₂, ◌∙◌}
use mathlib.Core.Bool.{Bool, true, false}
use mathlib.Core.List.{List}
use mathlib.Core.Logic.{◌↔◌}
use Prim.Native.Nat.{ℕ, ◌+◌, ◌-◌, ◌*◌, ◌/◌, ◌%◌, ◌≤◌, ◌<◌}
use native.Mathlib.Nat.{zero-add}
use native.Mathlib.Omega.{arith}
use borrow.Author.Tests.{eqb-true, eq-eqb, ne_eqb}
use lib.Count.{ones}
use lib.Dec.{eqb}
use lib.ListN.{length, get_or}
use Rattle.bits.specs.Tests.{both, every}
use Rattle.bits.specs.Numbers.{num_of, sum_of}
use Rattle.bits.specs.Octets.{bit_at}
use Rattle.refusal.specs.Refusals.{success, bad_length, numbered}
use Rattle.refusal.specs.declared.Refusal.{Refusal}
use Rattle.frame.specs.Frame.{start_good, marks_good, checks_good, column_of, good_frame, frame_verdict, image_checks, verdict_of, frame_at}
use Rattle.frame.proofs.ThreeTests.{verdict_by}
use Rattle.bits.proofs.TestLaws.{by_lt, both_true, every_all, every_at, every_ext}
use Rattle.refusal.proofs.CheckLaws.{Passed, success_passed, passed_success}
use Rattle.bits.proofs.NumberLaws.{num_ext, num_ones, sum_ext, sum_more}
use Rattle.bits.proofs.OctetLaws.{bit_lt, octet_back}

-- the frame at position 0 is that of the image
pub frame_0 : (s : List ℕ) → frame_at s 0 ≡ bit_at s
frame_0 s = λ i n. bit_at s (zero-add n i)

-- the ones of a gathered column are the column's sum
pub column_ones : (s : List ℕ) (p j : ℕ) → ones (num_of (λ g. frame_at s p (8 * g + 9 + j)) 15) ≡ column_of (frame_at s p) j
column_ones s p j = num_ones (λ g. frame_at s p (8 * g + 9 + j)) 15 (λ g _. bit_lt s (p + (8 * g + 9 + j)))

-- ---- the verdict by its tests

pub by_tests : (b : ℕ → ℕ) {s m k : Bool} → start_good b ≡ s → marks_good b ≡ m → checks_good b ≡ k → frame_verdict b ≡ verdict_by s m k
unfolding frame_verdict
by_tests b es em ek = λ i. verdict_by (es i) (em i) (ek i)

verdict_of_lem : (s m k : Bool) → eqb (verdict_by s m k).number success ≡ both s (both m k)
verdict_of_lem true true true = refl
verdict_of_lem true true false = refl
verdict_of_lem true false k = refl
verdict_of_lem false m k = refl

-- success is said of good frames only
pub verdict_good : (b : ℕ → ℕ) → eqb (frame_verdict b).number success ≡ good_frame b
unfolding frame_verdict good_frame
verdict_good b = verdict_of_lem (start_good b) (marks_good b) (checks_good b)

-- an image of another length, and one of sixteen octets
pub verdict_length : (image : List ℕ) → (length image ≡ 16 → ⊥) → verdict_of image ≡ numbered bad_length
unfolding verdict_of
verdict_length image h = rw (ne_eqb (length image) 16 h)

pub verdict_image : (image : List ℕ) → length image ≡ 16 → verdict_of image ≡ frame_verdict (bit_at image)
unfolding verdict_of frame_verdict
verdict_image image h = rw h

-- what success says of an image
pub verdict_passed : (image : List ℕ) → (verdict_of image).number ≡ success → Passed (image_checks image)
unfolding verdict_of
verdict_passed image v = success_passed (image_checks image) refl v

pub verdict_size : (image : List ℕ) → (verdict_of image).number ≡ success → length image ≡ 16
verdict_size image v = eqb-true _ _ (verdict_passed image v).0

-- an image that is accepted is a good frame
pub verdict_frame : (image : List ℕ) → verdict_of image ≡ numbered success → good_frame (bit_at image) ≡ true
verdict_frame image v =
    sym (verdict_good (bit_at image))
    ∙ ap (λ (r : Refusal). eqb r.number success) (sym (verdict_image image (verdict_size image (ap (λ (r : Refusal). r.number) v))) ∙ v)

-- ---- frames with the same bits are alike, but for the seventh bits of the data groups, 16, 24, .. 120, which have no check bit

module _ (b c : ℕ → ℕ) (same : (n : ℕ) → 1 ≤ n → n ≤ 128 → (n % 8 ≡ 0 → 16 ≤ n → n ≤ 120 → ⊥) → b n ≡ c n) where
  start_free : start_good b ≡ start_good c
  start_free = every_ext _ _ 8 (λ i l. ap (λ (x : ℕ). eqb x 0) (same (i + 1) (omega arith) (omega arith) (λ z k m. omega arith)))

  marks_free : marks_good b ≡ marks_good c
  marks_free =
      ap₂ both (every_ext _ _ 15 (λ g l. ap (λ (x : ℕ). eqb x 1) (same (8 * g + 9) (omega arith) (omega arith) (λ z k m. omega arith))))
      (ap (λ (x : ℕ). eqb x 1) (same 128 (omega arith) (omega arith) (λ z k m. omega arith)))

  checks_free : checks_good b ≡ checks_good c
  checks_free =
      every_ext _ _ 6
      (λ i l. ap (λ (x : ℕ). eqb (x % 2) 1) (sum_ext _ _ 15 (λ g k. same (8 * g + 9 + (i + 1)) (omega arith) (omega arith) (λ z m n. omega arith))))

  pub seventh_free : good_frame b ≡ good_frame c
  unfolding good_frame
  seventh_free = λ i. both (start_free i) (both (marks_free i) (checks_free i))

  verdict_free : frame_verdict b ≡ frame_verdict c
  verdict_free = by_tests b start_free marks_free checks_free ∙ sym (by_tests c refl refl refl)

module _ (b c : ℕ → ℕ) (same : (n : ℕ) → 1 ≤ n → n ≤ 128 → b n ≡ c n) where
  pub good_ext : good_frame b ≡ good_frame c
  good_ext = seventh_free b c (λ n h l _. same n h l)

  pub verdict_ext : frame_verdict b ≡ frame_verdict c
  verdict_ext = verdict_free b c (λ n h l _. same n h l)

-- ---- what a good frame says of single bits

module _ (b : ℕ → ℕ) (good : good_frame b ≡ true) where
  pub good_parts : (start_good b ≡ true) × (marks_good b ≡ true) × (checks_good b ≡ true)
  unfolding good_frame
  good_parts = let p = both_true good in let q = both_true p.1 in (p.0, q.0, q.1)

  pub start_zero : (n : ℕ) → n < 8 → b (n + 1) ≡ 0
  start_zero n h = eqb-true _ _ (every_at _ 8 good_parts.0 n h)

  pub mark_one : (g : ℕ) → g < 15 → b (8 * g + 9) ≡ 1
  mark_one g h = eqb-true _ _ (every_at _ 15 (both_true good_parts.1).0 g h)

  pub final_one : b 128 ≡ 1
  final_one = eqb-true _ _ (both_true {a = every (λ g. eqb (b (8 * g + 9)) 1) 15} good_parts.1).1

  pub column_odd : (i : ℕ) → i < 6 → column_of b (i + 1) % 2 ≡ 1
  column_odd i h = eqb-true _ _ (every_at _ 6 good_parts.2 i h)

-- sixteen octets that are a good frame are accepted
pub verdict_by_lem : (image : List ℕ) → length image ≡ 16 → good_frame (bit_at image) ≡ true → verdict_of image ≡ numbered success
unfolding verdict_of
verdict_by_lem image size good =
    let p = good_parts (bit_at image) good in passed_success (image_checks image) (eq-eqb _ _ size, (p.0, (p.1, (p.2, tt))))

-- ---- a good frame, exactly (001, Annex A, Appendix 3, paragraphs 2 and 3)

abbrev pub MeetsAll : (ℕ → ℕ) → Type 0
MeetsAll b =
    ((n : ℕ) → 1 ≤ n → n ≤ 8 → b n ≡ 0)
    × ((g : ℕ) → g ≤ 14 → b (8 * g + 9) ≡ 1)
    × (b 128 ≡ 1)
    × ((j : ℕ) → 1 ≤ j → j ≤ 6 → column_of b j % 2 ≡ 1)

pub good_exactly : (b : ℕ → ℕ) → (good_frame b ≡ true) ↔ MeetsAll b
unfolding good_frame
good_exactly b = (to, from)
  where
    to : good_frame b ≡ true → MeetsAll b
    to good = (
      λ n h l. let e : n - 1 + 1 ≡ n = omega arith in ap b (sym e) ∙ start_zero b good (n - 1) (omega arith),
      λ g l. mark_one b good g (omega arith),
      final_one b good,
      λ j h l. let e : j - 1 + 1 ≡ j = omega arith in ap (λ (i : ℕ). column_of b i % 2) (sym e) ∙ column_odd b good (j - 1) (omega arith),
    )

    from : MeetsAll b → good_frame b ≡ true
    from (start, mark, final, odd) =
        let s : start_good b ≡ true = every_all _ 8 (λ n h. eq-eqb _ 0 (start (n + 1) (omega arith) (omega arith))) in
        let m : marks_good b ≡ true = ap₂ both (every_all _ 15 (λ g h. eq-eqb _ 1 (mark g (omega arith)))) (eq-eqb _ 1 final) in
        let k : checks_good b ≡ true = every_all _ 6 (λ i h. eq-eqb _ 1 (odd (i + 1) (omega arith) (omega arith))) in
        λ i. both (s i) (both (m i) (k i))

-- so with check bits worked from the data bits
pub good_by : (b : ℕ → ℕ) → ((n : ℕ) → n < 8 → b (n + 1) ≡ 0) → ((g : ℕ) → g < 15 → b (8 * g + 9) ≡ 1) → b 128 ≡ 1
    → ((j : ℕ) → 1 ≤ j → j ≤ 6 → b (121 + j) ≡ (sum_of (λ g. b (8 * g + 9 + j)) 14 + 1) % 2) → good_frame b ≡ true
good_by b start mark final check = (good_exactly b).1 (
  λ n h l. let e : n - 1 + 1 ≡ n = omega arith in ap b (sym e) ∙ start (n - 1) (omega arith),
  λ g l. mark g (omega arith),
  final,
  λ j h l. omega (arith, sum_more (λ g. b (8 * g + 9 + j)) 14, check j h l),
)

-- the first octet of a good image is 0
pub start_octet : (s : List ℕ) → good_frame (bit_at s) ≡ true → get_or s 0 0 < 256 → get_or s 0 0 ≡ 0
unfolding num_of
start_octet s good h =
    sym (octet_back s 0 h)
    ∙ num_ext _ (λ i. 0) 8 (λ i l. let e : 8 * 0 + 8 - i ≡ 7 - i + 1 = omega arith in ap (bit_at s) e ∙ start_zero (bit_at s) good (7 - i) (omega arith))

-- ---- two good frames in one run of bits share no bit

module _ (c : ℕ → ℕ) (p q : ℕ) (first : good_frame (λ n. c (p + n)) ≡ true) (second : good_frame (λ n. c (q + n)) ≡ true) where
  -- a one of the first frame does not lie in the second's start group
  never : (m : ℕ) → c (p + m) ≡ 1 → q < p + m → p + m ≤ q + 8 → ⊥
  never m one a b =
      let n = p + m - q - 1 in
      let e : p + m ≡ q + (n + 1) = omega arith in
      omega (arith, one, ap c e, start_zero (λ n. c (q + n)) second n (omega arith))

  pub apart : p < q → p + 128 ≤ q
  apart lt =
      by_lt q (p + 128)
      (λ near.
      by_lt q (p + 120)
      (λ mark.
      let g = (q - p + 7) / 8 - 1 in
      absurd (never (8 * g + 9) (mark_one (λ n. c (p + n)) first g (omega arith)) (omega arith) (omega arith)))
      (λ final. absurd (never 128 (final_one (λ n. c (p + n)) first) (omega arith) (omega arith))))
      (λ far. far)
