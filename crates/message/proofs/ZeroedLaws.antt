-- Laws of a message with the codes of its absent modes zeroed, and what that is to the fields of an S.3. Assumes nothing.
use mathlib.Core.Path.{◌≡◌, refl, sym, ap, ap₂, ◌∙◌}
use mathlib.Core.Bool.{Bool, true, false}
use mathlib.Core.List.{[], ◌∷◌}
use Prim.Native.Nat.{ℕ, zero, suc, ◌+◌, ◌/◌, ◌%◌, ◌^◌, ◌≤◌, ◌<◌}
use native.Mathlib.Nat.{zero-add, div-one, div-eq_of_lt}
use native.Mathlib.Omega.{arith}
use borrow.Author.Tests.{eqb-true, ne_eqb, leb-true}
use lib.Dec.{eqb, leb, lit<, lit≤}
use Rattle.bits.specs.Tests.{pick, both, every}
use Rattle.bits.specs.Numbers.{num_of, field_of}
use Rattle.layout.specs.Layout.{split}
use Rattle.layout.specs.Trouble.{nothing, wrong, or_else, none_of, differing, trouble}
use Rattle.layout.specs.declared.Cause.TheVariants.{Spare, Unused}
use Rattle.kind.specs.Layouts.{iff_layout}
use Rattle.message.specs.Messages.{mode_of, presence_of, code_of, iff_from, iff_parts}
use Rattle.message.specs.ZeroedMessage.{presence_bit, is_iff, is_absent, is_unread, zeroed_bit, NoDigits}
use Rattle.bits.proofs.TestLaws.{both_true, both_false, every_at, rule_at}
use Rattle.bits.proofs.NumberLaws.{num_lt, num_ext, num_field, num_bit, num_zero}

-- the word of a message's bits
abbrev pub word_from : (ℕ → ℕ) → ℕ
word_from b = num_of (λ i. b (i + 1)) 49

presence_mode : (p : Bool) (n : ℕ) → presence_of (mode_of p n) ≡ p
presence_mode true n = refl
presence_mode false n = refl

-- ---- bit by bit

module _ (b : ℕ → ℕ) where
  -- a bit that stands in no code stays as it came
  outside : (i : ℕ) → presence_bit i ≡ 0 → zeroed_bit b i ≡ b i
  outside i e = ap (λ (p : ℕ). pick (both (is_iff b) (is_absent b p)) 0 (b i)) e ∙ ap (λ (t : Bool). pick t 0 (b i)) (both_false (is_iff b))

  -- and so does every bit if it is no S.3
  pub other_stays : is_iff b ≡ false → (i : ℕ) → zeroed_bit b i ≡ b i
  other_stays e i = rw e

  -- and if no digit is left
  pub clear_stays : NoDigits b → (i : ℕ) → 1 ≤ i → i ≤ 49 → zeroed_bit b i ≡ b i
  clear_stays none i h l = go (is_unread b i) (none i h l)
    where
      go : (t : Bool) → (t ≡ true → b i ≡ 0) → pick t 0 (b i) ≡ b i
      go true z = sym (z refl)
      go false z = refl

  -- which is just what that says
  pub stays_clear : ((i : ℕ) → 1 ≤ i → i ≤ 49 → zeroed_bit b i ≡ b i) → NoDigits b
  stays_clear same i h l e = sym (same i h l) ∙ ap (λ (t : Bool). pick t 0 (b i)) e

  pub zeroed_lt : ((i : ℕ) → b i < 2) → (i : ℕ) → zeroed_bit b i < 2
  zeroed_lt bits i = go (is_unread b i)
    where
      go : (t : Bool) → pick t 0 (b i) < 2
      go true = lit< tt
      go false = bits i

-- a presence bit is a message bit that stands in no code
presence_bits : (i : ℕ) → i ≤ 49 → (presence_bit i ≤ 49) × (presence_bit (presence_bit i) ≡ 0)
unfolding every
presence_bits i h =
    let t = both_true (every_at (λ i. both (leb (presence_bit i) 49) (eqb (presence_bit (presence_bit i)) 0)) 50 refl i (omega arith)) in
    (leb-true _ _ t.0, eqb-true _ _ t.1)

-- where two messages agree on the bits that stand in no code, the label and the presence bits among them, the same bits are zeroed
module _ (b c : ℕ → ℕ) (same : (i : ℕ) → 1 ≤ i → i ≤ 49 → presence_bit i ≡ 0 → b i ≡ c i) where
  iff_ext : is_iff b ≡ is_iff c
  unfolding every
  iff_ext =
      ap (λ (n : ℕ). eqb n 19)
      (num_ext (λ i. b (i + 1)) (λ i. c (i + 1)) 6
      (λ i l. same (i + 1) (omega arith) (omega arith) (rule_at (λ i. presence_bit (i + 1)) (λ i. 0) 6 refl i l)))

  absent_ext : (p : ℕ) → p ≤ 49 → presence_bit p ≡ 0 → is_absent b p ≡ is_absent c p
  absent_ext zero h e = refl
  absent_ext (suc p) h e = rw (ne_eqb (suc p) 0 (λ z. omega arith)) (ap (λ (n : ℕ). eqb n 0) (same (suc p) (omega arith) h e))

  unread_ext : (i : ℕ) → i ≤ 49 → is_unread b i ≡ is_unread c i
  unread_ext i h = let p = presence_bits i h in ap₂ both iff_ext (absent_ext (presence_bit i) p.0 p.1)

pub zeroed_ext : (b c : ℕ → ℕ) → ((i : ℕ) → 1 ≤ i → i ≤ 49 → b i ≡ c i) → (i : ℕ) → 1 ≤ i → i ≤ 49 → zeroed_bit b i ≡ zeroed_bit c i
zeroed_ext b c same i h l = ap₂ (λ (t : Bool) (n : ℕ). pick t 0 n) (unread_ext b c (λ i h l e. same i h l) i l) (same i h l)

-- what is zeroed keeps its label
pub zeroed_iff : (b : ℕ → ℕ) → is_iff (zeroed_bit b) ≡ is_iff b
zeroed_iff b = iff_ext (zeroed_bit b) b (λ i h l e. outside b i e)

-- zeroing twice is zeroing once
pub zeroed_twice : (b : ℕ → ℕ) (i : ℕ) → i ≤ 49 → zeroed_bit (zeroed_bit b) i ≡ zeroed_bit b i
zeroed_twice b i h =
    ap (λ (t : Bool). pick t 0 (zeroed_bit b i)) (unread_ext (zeroed_bit b) b (λ i h l e. outside b i e) i h) ∙ go (is_unread b i)
  where
    go : (t : Bool) → pick t 0 (pick t 0 (b i)) ≡ pick t 0 (b i)
    go true = refl
    go false = refl

-- ---- field by field

module _ (b : ℕ → ℕ) (bits : (i : ℕ) → b i < 2) where
  field_is : (at width : ℕ) → at + width ≤ 49 → field_of (word_from b) at width ≡ num_of (λ i. b (at + i + 1)) width
  field_is at width h = num_field (λ i. b (i + 1)) 49 at width (λ i. bits (i + 1)) h

  pub label_is : word_from b % 2 ^ 6 ≡ num_of (λ i. b (i + 1)) 6
  label_is =
      ap (λ (n : ℕ). n % 2 ^ 6) (sym (div-one (word_from b))) ∙ field_is 0 6 (lit≤ tt)
      ∙ num_ext (λ i. b (0 + i + 1)) (λ i. b (i + 1)) 6 (λ i l. ap (λ (n : ℕ). b (n + 1)) (zero-add i))

  above : word_from b / 2 ^ 49 ≡ 0
  above = div-eq_of_lt (num_lt (λ i. b (i + 1)) 49 (λ i _. bits (i + 1)))

module _ (b : ℕ → ℕ) (bits : (i : ℕ) → b i < 2) where
  -- the word as it came, and zeroed
  abbrev came : ℕ
  came = word_from b

  abbrev zeroed : ℕ
  zeroed = word_from (zeroed_bit b)

  -- bits that are c i in the zeroed word
  zeroed_field : (at width : ℕ) (c : ℕ → ℕ) → at + width ≤ 49 → ((i : ℕ) → i < width → zeroed_bit b (at + i + 1) ≡ c i) → field_of zeroed at width ≡ num_of c width
  zeroed_field at width c h same = field_is (zeroed_bit b) (zeroed_lt b bits) at width h ∙ num_ext (λ i. zeroed_bit b (at + i + 1)) c width same

  -- a field in no code stays as it came
  stays : (at width : ℕ) → at + width ≤ 49 → every (λ i. eqb (presence_bit (at + i + 1)) 0) width ≡ true → field_of zeroed at width ≡ field_of came at width
  stays at width h none =
      zeroed_field at width (λ i. b (at + i + 1)) h (λ i l. outside b (at + i + 1) (rule_at (λ i. presence_bit (at + i + 1)) (λ i. 0) width none i l))
      ∙ sym (field_is b bits at width h)

  module _ (iff : is_iff b ≡ true) where
    -- a bit of a code, by its presence bit p
    in_code : (i p n : ℕ) → presence_bit i ≡ p → 1 ≤ p → b p ≡ n → zeroed_bit b i ≡ pick (eqb n 0) 0 (b i)
    in_code i p n e h v =
        ap₂ (λ (s : Bool) (p : ℕ). pick (both s (is_absent b p)) 0 (b i)) iff e ∙ rw (ne_eqb p 0 (λ z. omega arith)) (ap (λ (n : ℕ). pick (eqb n 0) 0 (b i)) v)

    -- a code is that of the mode as it was read, by the presence bit q + 1
    code_is : (q at width : ℕ) → q < 49 → at + width ≤ 49 → every (λ i. eqb (presence_bit (at + i + 1)) (q + 1)) width ≡ true
        → field_of zeroed at width ≡ code_of (mode_of (eqb (field_of came q 1) 1) (field_of came at width))
    code_is q at width k h code =
        go (b (q + 1)) (bits (q + 1)) refl
        ∙ ap (λ (n : ℕ). code_of (mode_of (eqb n 1) (field_of came at width))) (sym (num_bit (λ i. b (i + 1)) 49 q (λ i. bits (i + 1)) k))
      where
        code_by : (n : ℕ) → b (q + 1) ≡ n → field_of zeroed at width ≡ num_of (λ i. pick (eqb n 0) 0 (b (at + i + 1))) width
        code_by n e =
            zeroed_field at width (λ i. pick (eqb n 0) 0 (b (at + i + 1))) h
            (λ i l. in_code (at + i + 1) (q + 1) n (rule_at (λ i. presence_bit (at + i + 1)) (λ i. q + 1) width code i l) (omega arith) e)

        go : (n : ℕ) → n < 2 → b (q + 1) ≡ n → field_of zeroed at width ≡ code_of (mode_of (eqb n 1) (field_of came at width))
        go zero _ e = code_by 0 e ∙ num_zero width
        go (suc zero) _ e = code_by 1 e ∙ sym (field_is b bits at width h)
        go (suc (suc n)) l e = absurd (omega arith)

    -- the values of the zeroed word are those of the message that the word as it came is read as
    pub iff_split : split 6 iff_layout zeroed ≡ iff_parts (iff_from (split 6 iff_layout came))
    unfolding every
    iff_split =
        let flag : (at : ℕ) → at + 1 ≤ 49 → every (λ i. eqb (presence_bit (at + i + 1)) 0) 1 ≡ true → eqb (field_of zeroed at 1) 1 ≡ eqb (field_of came at 1) 1
        = λ at h none. ap (λ (n : ℕ). eqb n 1) (stays at 1 h none) in
        let presence : (at code : ℕ) → at + 1 ≤ 49 → every (λ i. eqb (presence_bit (at + i + 1)) 0) 1 ≡ true
        → eqb (field_of zeroed at 1) 1 ≡ presence_of (mode_of (eqb (field_of came at 1) 1) code)
        = λ at code h none. flag at h none ∙ sym (presence_mode (eqb (field_of came at 1) 1) code) in
        let code3 = code_is 26 8 12 (lit< tt) (lit≤ tt) refl in
        let request = stays 20 3 (lit≤ tt) refl in
        let emergency = flag 23 (lit≤ tt) refl in
        let present1 = presence 24 (field_of came 30 5) (lit≤ tt) refl in
        let present2 = presence 25 (field_of came 37 12) (lit≤ tt) refl in
        let present3 = presence 26 (field_of came 8 12) (lit≤ tt) refl in
        let validation = flag 27 (lit≤ tt) refl in
        let code1 = code_is 24 30 5 (lit< tt) (lit≤ tt) refl in
        let code2 = code_is 25 37 12 (lit< tt) (lit≤ tt) refl in
        λ i. (tt, (code3 i, (request i, (emergency i, (present1 i, (present2 i, (present3 i, (validation i, (tt, (code1 i, (tt, (code2 i, tt))))))))))))

  -- what is asked of a field is asked of none in a code
  pub iff_trouble : trouble 6 iff_layout zeroed ≡ trouble 6 iff_layout came
  unfolding every
  iff_trouble =
      let spare7 = stays 6 2 (lit≤ tt) refl in
      let request = stays 20 3 (lit≤ tt) refl in
      let spare29 = stays 28 2 (lit≤ tt) refl in
      let spare36 = stays 35 2 (lit≤ tt) refl in
      let high : zeroed / 2 ^ 49 ≡ came / 2 ^ 49 = above (zeroed_bit b) (zeroed_lt b bits) ∙ sym (above b bits) in
      λ i.
      or_else (differing Spare 6 2 (spare7 i) 0)
      (or_else (pick (none_of (1 ∷ 3 ∷ 5 ∷ 6 ∷ 7 ∷ []) (request i)) nothing (wrong Unused 21))
      (or_else (differing Spare 28 2 (spare29 i) 0)
      (or_else (differing Spare 35 2 (spare36 i) 0) (pick (eqb (high i) 0) nothing (wrong Spare 50)))))
