-- The text and the number of a track undo each other. Assumes nothing.
use mathlib.Core.Path.{◌≡◌, refl, sym, ap, ◌∙◌}
use mathlib.Core.Bool.{Bool, true, false}
use mathlib.Core.List.{List, [], ◌∷◌}
use mathlib.Core.Logic.{◌↔◌}
use Prim.Native.Nat.{ℕ, suc, ◌+◌, ◌-◌, ◌*◌, ◌/◌, ◌%◌, ◌≤◌, ◌<◌}
use native.Mathlib.Nat.{div-div-eq-div-mul}
use native.Mathlib.Omega.{arith}
use borrow.Author.Tests.{lt-ltb, eq-eqb, ne_eqb, ltb-true, leb-true, eqb-true}
use lib.Dec.{eqb, leb, ltb, lit<}
use lib.ListN.{length, get_or}
use Rattle.std.specs.Prelude.{Option, Some, None, Ok, Err}
use Rattle.std.specs.Option.{ok_or}
use Rattle.std.specs.List.{position, position_or_len}
use Rattle.std.proofs.lemmas.List.Recursion.{is_position_or_len}
use Rattle.bits.specs.Tests.{pick, both, every}
use Rattle.refusal.specs.Checks.{test, first_refusal, answered}
use Rattle.refusal.specs.Refusals.{numbered, success, bad_length, out_of_range}
use Rattle.track.specs.TrackText.{letters, letter_of, digit_of, text_of, place_in, letter_code, digit_code, code_at, code_if, number_if, text_checks, text_refusal, text_after, is_text, text_number, track_checks, track_refusal, tracked_of}
use Rattle.refusal.specs.declared.Refusal.{Refusal}
use Rattle.bits.specs.Numbers.{tab}
use Rattle.bits.proofs.NumberLaws.{as_tab}
use Rattle.bits.proofs.TestLaws.{zero_one, both_true, every_fails, every_at, rule_at}
use Rattle.refusal.proofs.CheckLaws.{success_passed, given, answer_refused, answer_is}

-- ---- what an answer is, case by case

module _ (t : List ℕ) where
  pub not_five : (length t ≡ 5 → ⊥) → track_refusal t ≡ numbered bad_length
  unfolding track_refusal
  not_five h = rw (ne_eqb (length t) 5 h)

  pub a_text : length t ≡ 5 → is_text t ≡ true → tracked_of t ≡ Ok (text_number t)
  unfolding tracked_of track_refusal
  a_text h e = rw (h, e)

  -- a refusal that the code made, which is the one of the checks
  pub refused : {made r : Refusal} → made ≡ r → (r.number ≡ success → ⊥) → track_refusal t ≡ r → Err made ≡ tracked_of t
  unfolding tracked_of
  refused made wrong e = ap Err made ∙ sym (answer_refused _ e wrong)

  -- the number that the code made, or its refusal
  pub told : length t ≡ 5 → ok_or (number_if t) (numbered out_of_range) ≡ tracked_of t
  unfolding tracked_of track_refusal
  told h = rw (eq-eqb (length t) 5 h) (go (is_text t))
    where
      go : (b : Bool) → ok_or (pick b (Some (text_number t)) None) (numbered out_of_range)
          ≡ answered (first_refusal (test true (numbered bad_length) ∷ test b (numbered out_of_range) ∷ [])) (text_number t)
      go true = refl
      go false = refl

-- ---- a character and its code

letter_there : (k : ℕ) → k < 8 → letter_code (letter_of k) ≡ k
unfolding every
letter_there = rule_at (λ k. letter_code (letter_of k)) (λ k. k) 8 refl

digit_there : (k : ℕ) → k < 8 → digit_code (digit_of k) ≡ k
unfolding every
digit_there = rule_at (λ k. digit_code (digit_of k)) (λ k. k) 8 refl

-- the library's search of a list
place_is : (ys : List ℕ) (x : ℕ) → place_in ys x ≡ position_or_len (λ y. eqb x y) ys
place_is ys x = is_position_or_len (λ l. place_in l x) (λ y. eqb x y) refl (λ y l. ap (pick (eqb x y) 0) (omega arith)) ys

pub place_if : (ys : List ℕ) (x : ℕ) → position (λ y. eqb x y) ys ≡ pick (ltb (place_in ys x) (length ys)) (Some (place_in ys x)) None
place_if ys x = ap (λ (n : ℕ). pick (ltb n (length ys)) (Some n) None) (sym (place_is ys x))

place_step : (b : Bool) (y x n : ℕ) (ys : List ℕ)
    → (b ≡ true → x ≡ y) → (n < length ys → get_or ys n 0 ≡ x) → pick b 0 (suc n) < length (y ∷ ys) → get_or (y ∷ ys) (pick b 0 (suc n)) 0 ≡ x
place_step true y x n ys e f h = sym (e refl)
place_step false y x n ys e f h = f (omega (arith, h))

place_back : (ys : List ℕ) (x : ℕ) → place_in ys x < length ys → get_or ys (place_in ys x) 0 ≡ x
place_back [] x h = absurd (omega (arith, h))
place_back (y ∷ ys) x h = place_step (eqb x y) y x (place_in ys x) ys (eqb-true x y) (place_back ys x) h

letter_back : (x : ℕ) → letter_code x < 8 → letter_of (letter_code x) ≡ x
letter_back = place_back letters

picked : (b : Bool) (x : ℕ) → (b ≡ true → 48 ≤ x) → pick b (x - 48) 8 < 8 → digit_of (pick b (x - 48) 8) ≡ x
picked true x f h = omega (arith, f refl)
picked false x f h = absurd (omega (arith, h))

digit_back : (x : ℕ) → digit_code x < 8 → digit_of (digit_code x) ≡ x
digit_back x = picked (both (leb 48 x) (leb x 55)) x (λ e. leb-true 48 x (both_true e).0)

-- ---- five codes and their number

-- five codes, each below 8
abbrev Codes : ℕ → ℕ → ℕ → ℕ → ℕ → Type 0
Codes a b c d e = (a < 8) × (b < 8) × (c < 8) × (d < 8) × (e < 8)

abbrev packed : ℕ → ℕ → ℕ → ℕ → ℕ → ℕ
packed a b c d e = a * 4096 + b * 512 + c * 64 + d * 8 + e

codes_of : (t : List ℕ) → is_text t ≡ true → Codes (code_at t 0) (code_at t 1) (code_at t 2) (code_at t 3) (code_at t 4)
codes_of t e = (at 0 (lit< tt), at 1 (lit< tt), at 2 (lit< tt), at 3 (lit< tt), at 4 (lit< tt))
  where
    at : (i : ℕ) → i < 5 → code_at t i < 8
    at i h = ltb-true _ _ (every_at (λ i. ltb (code_at t i) 8) 5 e i h)

-- a code that was read, and one that is none
code_is : (n c : ℕ) → Some c ≡ code_if n → (ltb n 8 ≡ true) × (n ≡ c)
code_is n c = go (ltb n 8)
  where
    go : (b : Bool) → Some c ≡ pick b (Some n) None → (b ≡ true) × (n ≡ c)
    go true e = (refl, cc)
    go false e = zero_one (cc)

code_not : (n : ℕ) → None ≡ code_if n → ltb n 8 ≡ false
code_not n = go (ltb n 8)
  where
    go : (b : Bool) → None ≡ pick {A = Option ℕ} b (Some n) None → b ≡ false
    go true e = zero_one (cc)
    go false e = refl

module _ (t : List ℕ) where
  pub no_number : (i : ℕ) → i < 5 → None ≡ code_if (code_at t i) → None ≡ number_if t
  no_number i h e = sym (ap (λ (b : Bool). pick b (Some (text_number t)) None) (every_fails _ 5 i h (code_not (code_at t i) e)))

  pub number_is : (a b c d e : ℕ) → Some a ≡ code_if (code_at t 0) → Some b ≡ code_if (code_at t 1) → Some c ≡ code_if (code_at t 2)
      → Some d ≡ code_if (code_at t 3) → Some e ≡ code_if (code_at t 4) → Some (a * 4096 + b * 512 + (c * 64 + d * 8 + e)) ≡ number_if t
  unfolding every
  number_is a b c d e p q r s u =
      let v = code_is _ a p in
      let w = code_is _ b q in
      let x = code_is _ c r in
      let y = code_is _ d s in
      let z = code_is _ e u in
      rw (v.0, w.0, x.0, y.0, z.0) (ap Some (omega (arith, v.1, w.1, x.1, y.1, z.1)))

-- each code is what is left over eight, and the rest goes on
eights : (n a b c d : ℕ) → a ≡ n / 8 → b ≡ a / 8 → c ≡ b / 8 → d ≡ c / 8 → n < 32768 → packed (d % 8) (c % 8) (b % 8) (a % 8) (n % 8) ≡ n
eights n a b c d ha hb hc hd h =
    let la : a < 4096 = omega (arith, ha, h) in
    let lb : b < 512 = omega (arith, hb, la) in
    let lc : c < 64 = omega (arith, hc, lb) in
    let ld : d % 8 ≡ d = omega (arith, hd, lc) in
    let ec : d * 8 + c % 8 ≡ c = omega (arith, hd) in
    let eb : c * 8 + b % 8 ≡ b = omega (arith, hc) in
    let ea : b * 8 + a % 8 ≡ a = omega (arith, hb) in
    let en : a * 8 + n % 8 ≡ n = omega (arith, ha) in
    omega (arith, ld, ec, eb, ea, en)

unpacked : (n : ℕ) → n < 32768 → packed (n / 4096 % 8) (n / 512 % 8) (n / 64 % 8) (n / 8 % 8) (n % 8) ≡ n
unpacked n =
    eights n (n / 8) (n / 64) (n / 512) (n / 4096)
    refl
    (sym (div-div-eq-div-mul n 8 8))
    (sym (div-div-eq-div-mul n 64 8))
    (sym (div-div-eq-div-mul n 512 8))

packed_text : (a b c d e : ℕ) → Codes a b c d e → text_of (packed a b c d e) ≡ letter_of a ∷ letter_of b ∷ digit_of c ∷ digit_of d ∷ digit_of e ∷ []
packed_text a b c d e h =
    let n = packed a b c d e in
    let ha : n / 4096 % 8 ≡ a = omega (arith, h.0, h.1, h.2, h.3, h.4) in
    let hb : n / 512 % 8 ≡ b = omega (arith, h.0, h.1, h.2, h.3, h.4) in
    let hc : n / 64 % 8 ≡ c = omega (arith, h.0, h.1, h.2, h.3, h.4) in
    let hd : n / 8 % 8 ≡ d = omega (arith, h.0, h.1, h.2, h.3, h.4) in
    let he : n % 8 ≡ e = omega (arith, h.0, h.1, h.2, h.3, h.4) in
    rw (ha, hb, hc, hd, he)

-- ---- both ways

number_there : (n : ℕ) → n < 32768 → (is_text (text_of n) ≡ true) × (text_number (text_of n) ≡ n)
unfolding every
number_there n h =
    rw (
      letter_there (n / 4096 % 8) (omega arith),
      letter_there (n / 512 % 8) (omega arith),
      digit_there (n / 64 % 8) (omega arith),
      digit_there (n / 8 % 8) (omega arith),
      digit_there (n % 8) (omega arith),
    ) (
      rw (
        lt-ltb (n / 4096 % 8) 8 (omega arith),
        lt-ltb (n / 512 % 8) 8 (omega arith),
        lt-ltb (n / 64 % 8) 8 (omega arith),
        lt-ltb (n / 8 % 8) 8 (omega arith),
        lt-ltb (n % 8) 8 (omega arith),
      ),
      unpacked n h,
    )

number_lt : (t : List ℕ) → is_text t ≡ true → text_number t < 32768
number_lt t e = let h = codes_of t e in omega (arith, h.0, h.1, h.2, h.3, h.4)

number_back : (t : List ℕ) → length t ≡ 5 → is_text t ≡ true → text_of (text_number t) ≡ t
unfolding tab
number_back t h e =
    let k = codes_of t e in
    packed_text (code_at t 0) (code_at t 1) (code_at t 2) (code_at t 3) (code_at t 4) k
    ∙ rw (
      letter_back (get_or t 0 0) k.0,
      letter_back (get_or t 1 0) k.1,
      digit_back (get_or t 2 0) k.2,
      digit_back (get_or t 3 0) k.3,
      digit_back (get_or t 4 0) k.4,
    )
    (sym (as_tab 5 t h))

-- what `track_text` writes, `track_number` reads
pub written_reads : (n : ℕ) (buffer : List ℕ) → text_refusal n buffer ≡ numbered success → tracked_of (text_after n buffer) ≡ Ok n
unfolding text_refusal text_after
written_reads n buffer e =
    let z = ap (λ (r : Refusal). r.number) e in
    let h = number_there n (ltb-true n 32768 (success_passed (text_checks n buffer) refl z).1.0) in
    ap tracked_of (given (text_refusal n buffer) (text_of n) buffer z) ∙ a_text (text_of n) refl h.0 ∙ ap Ok h.1

-- what `track_number` reads, `track_text` writes
pub read_writes : (t buffer : List ℕ) (n : ℕ) → tracked_of t ≡ Ok n → length buffer ≡ 5
    → (text_refusal n buffer ≡ numbered success) × (text_after n buffer ≡ t)
unfolding tracked_of track_refusal text_refusal text_after
read_writes t buffer n e h =
    let q = answer_is (text_number t) (track_refusal t) n e in
    let p = success_passed (track_checks t) refl q.0 in
    let is : text_number t ≡ n = cc in
    let l = eqb-true (length t) 5 p.0 in
    rw (← is, eq-eqb (length buffer) 5 h, lt-ltb (text_number t) 32768 (number_lt t p.1.0)) (refl, number_back t l p.1.0)

-- a text is read exactly if it has five characters that each have a code
pub reads_exactly : (t : List ℕ) → ((n : ℕ) × (tracked_of t ≡ Ok n)) ↔ ((length t ≡ 5) × (is_text t ≡ true))
unfolding tracked_of track_refusal
reads_exactly t = (
  λ w.
      let q = answer_is (text_number t) (track_refusal t) w.0 w.1 in
      let p = success_passed (track_checks t) refl q.0 in
      (eqb-true (length t) 5 p.0, p.1.0),
  λ w. (text_number t, a_text t w.0 w.1),
)
