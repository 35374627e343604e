-- TWO WRONG LEVELS: how far the argument reaches (02, item 7). Of a good frame as sent, with the level before it, change two of the 129
-- levels: the 128 bits decoded at that place are a good frame exactly if the two pass together. Assumes nothing.
use mathlib.Core.Path.{◌≡◌, refl, sym, ap, ap₂, ◌∙◌}
use mathlib.Core.Bool.{Bool, true, false, not}
use mathlib.Core.List.{List, []}
use Prim.Native.Nat.{ℕ, zero, suc, ◌+◌, ◌-◌, ◌*◌, ◌%◌, ◌≤◌, ◌<◌}
use native.Mathlib.Omega.{arith}
use borrow.Author.Tests.{lt-ltb}
use lib.Dec.{eqb, ltb}
use lib.ListN.{length}
use Rattle.bits.specs.Tests.{pick, both, agree, every}
use Rattle.bits.specs.Numbers.{sum_of}
use Rattle.bits.specs.Octets.{bit_at}
use Rattle.refusal.specs.Refusals.{numbered, success}
use Rattle.frame.specs.Frame.{start_good, marks_good, column_of, checks_good, good_frame, verdict_of}
use Rattle.line.specs.Told.{last_frame}
use Rattle.line.specs.WrongLevel.{changed_at, on_the_line, wrong_bits, two_wrong_bits, turned, beside, pass_together}
use Rattle.bits.proofs.TestLaws.{agree_is, every_ext, every_at}
use Rattle.bits.proofs.OctetLaws.{bit_lt}
use Rattle.frame.proofs.FrameLaws.{verdict_frame, good_ext, start_zero, mark_one, final_one, column_odd}
use Rattle.line.proofs.WindowLaws.{Bits}
use Rattle.line.proofs.Demand3.{ends_in}
use Rattle.line.proofs.OneWrongLevel.{one_for, column_turned, changed_levels, changed_length, bits_turned, decoded_length, wrong_levels, wrong_size, wrong_length, wrong_bits_lem}

-- ---- what is noticed depends on which bits are turned, and not on the frame

-- no bit of the start group, no mark and not the final one are among them, and of each check column an even number
abbrev unnoticed : (ℕ → Bool) → Bool
unnoticed d =
    both (every (λ i. not (d (i + 1))) 8)
    (both (both (every (λ g. not (d (8 * g + 9))) 15) (not (d 128))) (every (λ i. eqb (column_of (one_for d) (i + 1) % 2) 0) 6))

module _ (d : ℕ → Bool) (b : ℕ → ℕ) (small : (n : ℕ) → b n ≤ 1) (good : good_frame b ≡ true) where
  zero_seen : (n : ℕ) → b n ≡ 0 → eqb (turned d b n) 0 ≡ not (d n)
  zero_seen n e = rw e (go (d n))
    where
      go : (t : Bool) → eqb (pick t 1 0) 0 ≡ not t
      go true = refl
      go false = refl

  one_seen : (n : ℕ) → b n ≡ 1 → eqb (turned d b n) 1 ≡ not (d n)
  one_seen n e = rw e (go (d n))
    where
      go : (t : Bool) → eqb (pick t 0 1) 1 ≡ not t
      go true = refl
      go false = refl

  column_seen : (i : ℕ) → i < 6 → eqb (column_of (turned d b) (i + 1) % 2) 1 ≡ eqb (column_of (one_for d) (i + 1) % 2) 0
  column_seen i h =
      let p = column_turned d b small (i + 1) in
      let o = column_odd b good i h in
      let e : column_of (turned d b) (i + 1) % 2 ≡ 1 - column_of (one_for d) (i + 1) % 2 = omega arith in
      rw e (go (column_of (one_for d) (i + 1) % 2) (omega arith))
    where
      go : (n : ℕ) → n ≤ 1 → eqb (1 - n) 1 ≡ eqb n 0
      go zero h = refl
      go (suc zero) h = refl
      go (suc (suc n)) h = absurd (omega arith)

  pub turned_good : good_frame (turned d b) ≡ unnoticed d
  unfolding good_frame
  turned_good =
      let start : start_good (turned d b) ≡ every (λ i. not (d (i + 1))) 8 = every_ext _ _ 8 (λ i h. zero_seen (i + 1) (start_zero b good i h)) in
      let marks : marks_good (turned d b) ≡ both (every (λ g. not (d (8 * g + 9))) 15) (not (d 128)) =
      ap₂ both (every_ext _ _ 15 (λ g h. one_seen (8 * g + 9) (mark_one b good g h))) (one_seen 128 (final_one b good)) in
      let checks : checks_good (turned d b) ≡ every (λ i. eqb (column_of (one_for d) (i + 1) % 2) 0) 6 = every_ext _ _ 6 column_seen in
      λ i. both (start i) (both (marks i) (checks i))

-- ---- two changed levels: the bits beside one of them alone are turned

abbrev beside_one : ℕ → ℕ → ℕ → Bool
beside_one i k n = pick (beside i n) (not (beside k n)) (beside k n)

beside_one_lem : (i k : ℕ) (b : ℕ → ℕ) (n : ℕ) → b n ≤ 1 → turned (beside k) (turned (beside i) b) n ≡ turned (beside_one i k) b n
beside_one_lem i k b n small = go (beside i n) (beside k n)
  where
    go : (s t : Bool) → pick t (1 - pick s (1 - b n) (b n)) (pick s (1 - b n) (b n)) ≡ pick (pick s (not t) t) (1 - b n) (b n)
    go true true = omega arith
    go true false = refl
    go false true = refl
    go false false = refl

-- ---- which two pass, computed for every two of 129 levels

-- the rule for two levels, the first of them below the second
abbrev rule : ℕ → ℕ → Bool
rule i k = pick (ltb i k) (agree (unnoticed (beside_one i k)) (pass_together i k)) true

every_two : every (λ i. every (rule i) 129) 129 ≡ true
unfolding every sum_of
every_two = refl

two_seen : (i k : ℕ) → i < k → k ≤ 128 → unnoticed (beside_one i k) ≡ pass_together i k
two_seen i k h few =
    let e : rule i k ≡ true = every_at (rule i) 129 (every_at (λ m. every (rule m) 129) 129 every_two i (omega arith)) k (omega arith) in
    agree_is _ _ (rw (lt-ltb i k h) at e)

-- of the 8,256 choices of two levels 616 pass
pub counted : sum_of (λ i. sum_of (λ k. pick (both (ltb i k) (pass_together i k)) 1 0) 129) 129 ≡ 616
unfolding sum_of
counted = refl

-- ---- THE THEOREM: a good image, sent after either level into a buffer of 128 octets, with levels i and k, two of 0 to 128, changed

module _ (image : List ℕ) (good : verdict_of image ≡ numbered success) (previous : ℕ) (level : previous ≤ 1) (buffer : List ℕ) (room : length buffer ≡ 128)
    (i k : ℕ) (order : i < k) (few : k ≤ 128) where
  first : i ≤ 128
  first = omega arith

  one_levels : Bits (changed_at i (on_the_line image previous buffer))
  one_levels = wrong_levels image good previous level buffer room i first

  one_size : length (changed_at i (on_the_line image previous buffer)) ≡ 129
  one_size = wrong_size image good previous level buffer room i first

  two_length : length (two_wrong_bits image previous buffer i k) ≡ 128
  two_length =
      decoded_length (changed_levels (changed_at i (on_the_line image previous buffer)) one_levels k)
      (changed_length (changed_at i (on_the_line image previous buffer)) k ∙ one_size)

  two_bits : (n : ℕ) → 1 ≤ n → n ≤ 128 → last_frame (two_wrong_bits image previous buffer i k) n ≡ turned (beside k) (turned (beside i) (bit_at image)) n
  two_bits n h l =
      ends_in [] (two_wrong_bits image previous buffer i k) two_length n
      ∙ bits_turned (changed_at i (on_the_line image previous buffer)) one_levels k (omega (arith, one_size)) n h (omega (arith, one_size))
      ∙ ap (λ (x : ℕ). pick (beside k n) (1 - x) x)
      (sym (ends_in [] (wrong_bits image previous buffer i) (wrong_length image good previous level buffer room i first) n)
      ∙ wrong_bits_lem image good previous level buffer room i first n h l)

  pub two_wrong_levels : good_frame (last_frame (two_wrong_bits image previous buffer i k)) ≡ pass_together i k
  two_wrong_levels =
      let bit : (n : ℕ) → bit_at image n ≤ 1 = λ n. omega (arith, bit_lt image n) in
      good_ext _ _ (λ n h l. two_bits n h l ∙ beside_one_lem i k (bit_at image) n (bit n))
      ∙ turned_good (beside_one i k) (bit_at image) bit (verdict_frame image good)
      ∙ two_seen i k order few
