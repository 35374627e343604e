-- What sending answers, and the loop that writes levels. Assumes nothing.
use mathlib.Core.Path.{◌≡◌, sym, ap, ◌∙◌}
use mathlib.Core.List.{List, [], ◌∷◌, ◌++◌}
use Prim.Native.Nat.{ℕ, ◌+◌, ◌≤◌, ◌<◌}
use native.Mathlib.Numerals.{add-one}
use native.Mathlib.Omega.{arith}
use borrow.Author.Tests.{ne_eqb, lt-ltb, le-ltb}
use lib.ListN.{length, take, get_or, set, length-set}
use lib.Seq.{take-suc, take-suc-set, take_all}
use Rattle.std.proofs.Common.{Ok, Err}
use Rattle.refusal.specs.Refusals.{success, bad_level, bad_length, numbered}
use Rattle.refusal.specs.declared.Refusal.{Refusal}
use Rattle.frame.specs.Frame.{frame_verdict, verdict_of}
use Rattle.line.specs.Sending.{next, levels_after, image_bits, send_refusal, send_levels, Sent}
use Rattle.refusal.proofs.CheckLaws.{given, left, answer_refused}
use Rattle.frame.proofs.FrameLaws.{verdict_image}
use Rattle.line.proofs.LevelLaws.{last_level, last_snoc, levels_snoc}

-- ---- the checks in their order

module _ (image : List ℕ) (previous : ℕ) (buffer : List ℕ) where
  pub bad_image : (length image ≡ 16 → ⊥) → send_refusal image previous buffer ≡ numbered bad_length
  unfolding send_refusal
  bad_image h = rw (ne_eqb _ _ h)

  pub bad_buffer : length image ≡ 16 → (length buffer ≡ 128 → ⊥) → send_refusal image previous buffer ≡ numbered bad_length
  unfolding send_refusal
  bad_buffer a h = rw (a, ne_eqb _ _ h)

  pub bad_previous : length image ≡ 16 → length buffer ≡ 128 → 1 < previous → send_refusal image previous buffer ≡ numbered bad_level
  unfolding send_refusal
  bad_previous a b h = rw (a, b, lt-ltb 1 previous h)

  pub by_verdict : length image ≡ 16 → length buffer ≡ 128 → previous ≤ 1 → send_refusal image previous buffer ≡ verdict_of image
  unfolding send_refusal frame_verdict
  by_verdict a b h = rw (a, b, le-ltb 1 previous h) (sym (verdict_image image a))

  -- the buffer by the refusal
  pub buffer_stays : (r : Refusal) → send_refusal image previous buffer ≡ r → (r.number ≡ success → ⊥) → buffer ≡ send_levels image previous buffer
  unfolding send_levels
  buffer_stays r e h = sym (left (send_refusal image previous buffer) _ _ (λ q. h (sym (ap (λ (x : Refusal). x.number) e) ∙ q)))

  pub buffer_written : (send_refusal image previous buffer).number ≡ success → levels_after previous (image_bits image) ≡ send_levels image previous buffer
  unfolding send_levels
  buffer_written e = sym (given (send_refusal image previous buffer) _ _ e)

  -- the whole answer of a refusal, and of a success
  pub sent_refused : (r : Refusal) → send_refusal image previous buffer ≡ r → (r.number ≡ success → ⊥)
      → Sent image previous buffer (Err r) buffer
  sent_refused r e h = (sym (answer_refused tt e h), buffer_stays r e h)

  pub sent_written : (send_refusal image previous buffer).number ≡ success
      → Sent image previous buffer (Ok tt) (levels_after previous (image_bits image))
  sent_written e = (sym (given (send_refusal image previous buffer) _ _ e), buffer_written e)

-- ---- the loop

-- the first i levels tell the first i bits, and `level` is the last of them
pub record Sending (bits : List ℕ) (previous : ℕ) (levels : List ℕ) (level i : ℕ) : Type 0 where
  pub small : i ≤ 128
  pub long : length levels ≡ 128
  pub put : take i levels ≡ levels_after previous (take i bits)
  pub now_at : level ≡ last_level previous (levels_after previous (take i bits))
  pub fits : level ≤ 1

pub sending_more : (bits : List ℕ) (previous : ℕ) (levels : List ℕ) (level i v : ℕ) → Sending bits previous levels level i → i < 128 → length bits ≡ 128
    → v ≡ next level (get_or bits i 0) → v ≤ 1 → Sending bits previous (set levels i v) v (i + 1)
sending_more bits previous levels level i v s h many e f =
    let lo : i < length levels = omega (arith, s.long) in
    let lb : i < length bits = omega arith in
    let x : levels_after previous (take (i + 1) bits) ≡ levels_after previous (take i bits) ++ v ∷ [] =
    rw (add-one i, take-suc bits i 0 lb) (levels_snoc previous (take i bits) (get_or bits i 0) ∙ rw (e, s.now_at)) in
    record {
      small = omega arith;
      long = length-set levels i v ∙ s.long;
      put = rw (x, ← s.put, add-one i) (take-suc-set levels i v lo);
      now_at = rw x (sym (last_snoc previous (levels_after previous (take i bits)) v));
      fits = f;
    }

pub sending_done : (bits : List ℕ) (previous : ℕ) (levels : List ℕ) (level i : ℕ) → Sending bits previous levels level i → length bits ≡ 128 → 128 ≤ i
    → levels ≡ levels_after previous bits
sending_done bits previous levels level i s many h =
    sym (take_all i levels (omega (arith, s.long))) ∙ s.put ∙ ap (levels_after previous) (take_all i bits (omega arith))
