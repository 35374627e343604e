-- What a receiver holds after a run of levels, and what it answers. Assumes nothing.
use mathlib.Core.Path.{◌≡◌, refl, sym, ap, ◌∙◌}
use mathlib.Core.Bool.{Bool, true, false}
use mathlib.Core.List.{List, [], ◌∷◌, ◌++◌, append_assoc, append-nil}
use Prim.Native.Nat.{ℕ, ◌+◌, ◌-◌, ◌/◌, ◌%◌, ◌^◌, ◌≤◌, ◌<◌}
use native.Mathlib.Omega.{arith}
use borrow.Author.Tests.{le-leb, lt-leb, le-ltb, ltb-false}
use lib.Dec.{lit<}
use lib.ListN.{length, get_or}
use lib.Pow.{shr-shr}
use Rattle.bits.specs.Tests.{pick, both, every}
use Rattle.bits.specs.Octets.{bit_at, octets_of}
use Rattle.frame.specs.Frame.{good_frame}
use Rattle.line.specs.Levels.{refused, differ, kept, bits_after, bits_of, decoded}
use Rattle.line.specs.Machine.{window_image, fresh_of, accepted, holds_frame, answer_of, heard_of, run_from, run}
use Rattle.line.specs.Told.{last_frame, ends_good, told_of, told}
use Rattle.line.specs.declared.Window.{Window}
use Rattle.line.specs.declared.Receiver.{Receiver}
use Rattle.line.specs.declared.Heard.{Heard}
use Rattle.bits.proofs.TestLaws.{by_lt, clash, never_true, rule_at}
use Rattle.bits.proofs.OctetLaws.{octets_bits, octets_ext}
use Rattle.frame.proofs.FrameLaws.{good_ext, start_zero}
use Rattle.line.proofs.WindowLaws.{Bits, none, val_from, val_snoc, val_div, val_bit, Low, push_low, window_octet, window_bit}
use Rattle.line.proofs.LevelLaws.{last_level, last_snoc, differ_le, bits_append, bits_bits}

-- the ones of an idle line
abbrev pub idle : ℕ
idle = 2 ^ 128 - 1

abbrev some : List ℕ → Bool
some [] = false
some (k ∷ ks) = true

-- what a receiver holds that has accepted the levels ks
record Holds (s : Receiver) (ks : List ℕ) : Type 0 where
  window : Low s.window (val_from idle (bits_of ks))
  last : s.last ≡ last_level 0 ks
  started : s.started ≡ some ks

fresh_holds : Holds fresh_of []
fresh_holds = record { window = record { older = refl; newer = refl }; last = refl; started = refl }

accept_holds : (s : Receiver) (ks : List ℕ) (l : ℕ) → Holds s ks → Holds (accepted s l) (ks ++ l ∷ [])
accept_holds s [] l h = record { window = rw h.started h.window; last = refl; started = refl }
accept_holds s (k ∷ r) l h =
    let e : bits_after k (r ++ l ∷ []) ≡ bits_after k r ++ differ (last_level k r) l ∷ [] = bits_append k r (l ∷ []) in
    record {
      window =
          rw (h.started, e, val_snoc idle (bits_after k r) (differ (last_level k r) l), ← h.last)
          (push_low _ _ _ (differ_le s.last l) h.window);
      last = sym (last_snoc k r l);
      started = refl;
    }

-- ---- the window of a run of bits

pub bits_of_lem : (ks : List ℕ) → Bits (bits_of ks)
bits_of_lem [] = none
bits_of_lem (k ∷ r) = bits_bits k r

module _ (w : Window) (h : List ℕ) (low : Low w (val_from idle h)) (bits : Bits h) where
  -- the window's image holds the last 128 bits, where there are as many
  image_bit : 128 ≤ length h → (n : ℕ) → 1 ≤ n → n ≤ 128 → bit_at (window_image w) n ≡ last_frame h n
  image_bit enough n a b =
      let e : length h - 1 - (128 - n) ≡ length h - 128 + (n - 1) = omega arith in
      window_bit w (val_from idle h) low n a b ∙ val_bit idle bits (128 - n) (omega arith) ∙ ap (λ (i : ℕ). get_or h i 0) e

  -- else its first bit is a one of the idle line
  ones : (k : ℕ) → k < 128 → idle / 2 ^ k % 2 ≡ 1
  unfolding every
  ones = rule_at (λ k. idle / 2 ^ k % 2) (λ k. 1) 128 refl

  first_one : length h < 128 → bit_at (window_image w) 1 ≡ 1
  first_one few =
      let k = 127 - length h in
      let e : 127 ≡ length h + k = omega arith in
      window_bit w (val_from idle h) low 1 (omega arith) (omega arith)
      ∙ ap (λ (n : ℕ). val_from idle h / 2 ^ n % 2) e
      ∙ ap (λ (n : ℕ). n % 2) (sym (shr-shr (val_from idle h) (length h) k) ∙ ap (λ (n : ℕ). n / 2 ^ k) (val_div idle bits))
      ∙ ones k (omega arith)

  good_is : good_frame (bit_at (window_image w)) ≡ ends_good h
  unfolding ends_good
  good_is =
      by_lt (length h) 128
      (λ few.
      never_true _ (λ e. let z = start_zero (bit_at (window_image w)) e 0 (lit< tt) in omega (arith, first_one few))
      ∙ ap (λ (t : Bool). both t (good_frame (last_frame h))) (sym (lt-leb 128 (length h) few)))
      (λ enough.
      good_ext _ _ (image_bit enough) ∙ ap (λ (t : Bool). both t (good_frame (last_frame h))) (sym (le-leb 128 (length h) enough)))

  image_is : ends_good h ≡ true → window_image w ≡ octets_of 16 (last_frame h)
  unfolding ends_good
  image_is g =
      by_lt (length h) 128
      (λ few. absurd (clash g (ap (λ (t : Bool). both t (good_frame (last_frame h))) (lt-leb 128 (length h) few))))
      (λ enough. sym (octets_bits (window_image w) 16 refl octet) ∙ octets_ext 16 _ _ (image_bit enough))
    where
      octet : (k : ℕ) → get_or (window_image w) k 0 < 256
      octet k = window_octet w (val_from idle h) low k

-- ---- runs

pub run_snoc : (s : Receiver) (ls : List ℕ) (l : ℕ) → run_from s (ls ++ l ∷ []) ≡ (heard_of (run_from s ls) l).receiver
run_snoc s [] l = refl
run_snoc s (x ∷ ls) l = run_snoc (heard_of s x).receiver ls l

run_holds : (s : Receiver) (ks ls : List ℕ) → Holds s ks → Holds (run_from s ls) (ks ++ kept ls)
run_holds s ks [] h = rw append-nil h
run_holds s ks (l ∷ ls) h = go (refused l) refl (run_holds s ks ls h) (run_holds (accepted s l) (ks ++ l ∷ []) ls (accept_holds s ks l h))
  where
    go : (t : Bool) → refused l ≡ t → Holds (run_from s ls) (ks ++ kept ls) → Holds (run_from (accepted s l) ls) ((ks ++ l ∷ []) ++ kept ls)
        → Holds (run_from (heard_of s l).receiver ls) (ks ++ pick t (kept ls) (l ∷ kept ls))
    go true e a b = rw e a
    go false e a b = rw e (rw (append_assoc ks (l ∷ []) (kept ls)) at b)

-- the window after any levels holds the decoded bits
pub run_window : (ls : List ℕ) → Low (run ls).window (val_from idle (decoded ls))
run_window ls = (run_holds fresh_of [] ls fresh_holds).window

-- so what it hands over is what these bits say
answer_is : (ls : List ℕ) → answer_of (run ls) ≡ told_of ls (decoded ls)
unfolding holds_frame
answer_is ls = go (ends_good (decoded ls)) refl
  where
    good : good_frame (bit_at (window_image (run ls).window)) ≡ ends_good (decoded ls)
    good = good_is (run ls).window (decoded ls) (run_window ls) (bits_of_lem (kept ls))

    go : (t : Bool) → ends_good (decoded ls) ≡ t → answer_of (run ls) ≡ told_of ls (decoded ls)
    go true e = rw (good, e, image_is (run ls).window (decoded ls) (run_window ls) (bits_of_lem (kept ls)) e)
    go false e = rw (good, e)

-- a level that is taken is answered by what the receiver then holds
pub heard_answer : (ls : List ℕ) (l : ℕ) → l ≤ 1 → heard_of (run ls) l ≡ answer_of (run (ls ++ l ∷ []))
heard_answer ls l h =
    let e : heard_of (run ls) l ≡ answer_of (accepted (run ls) l) = rw (le-ltb 1 l h) in
    e ∙ ap answer_of (sym (run_snoc fresh_of ls l ∙ ap (λ (x : Heard). x.receiver) e))

-- after any levels, any level is answered as the decoded bits say
pub heard_told : (ls : List ℕ) (l : ℕ) → heard_of (run ls) l ≡ told ls l
heard_told ls l = go (refused l) refl
  where
    go : (t : Bool) → refused l ≡ t → heard_of (run ls) l ≡ told ls l
    go true e = rw e
    go false e = heard_answer ls l (ltb-false 1 l e) ∙ answer_is (ls ++ l ∷ []) ∙ rw e
