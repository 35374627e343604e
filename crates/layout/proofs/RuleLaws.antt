-- The code's tables and the loops over them say what the layouts say. Assumes nothing.
use mathlib.Core.Path.{◌≡◌, refl, ap, ap₂, ◌∙◌}
use mathlib.Core.Bool.{Bool, true, false, not}
use mathlib.Core.List.{List, [], ◌∷◌}
use Prim.Native.Nat.{ℕ, ◌+◌, ◌*◌, ◌^◌, ◌≤◌, ◌<◌}
use native.Mathlib.Nat.{zero-add, mod-lt, lt_of_lt_of_le}
use native.Mathlib.Numerals.{add-one}
use native.Mathlib.Omega.{arith}
use borrow.Author.Tests.{eqb-false, ltb-true}
use lib.Dec.{T, eqb, ltb, lit<, leb→le}
use lib.ListN.{length, drop, get_or}
use lib.Pow.{pow_pos}
use lib.Seq.{drop-cons}
use Rattle.std.specs.Prelude.{Result, Ok, Err}
use Rattle.bits.specs.Tests.{pick}
use Rattle.bits.specs.Numbers.{bit, num_of, field_of, placed_of}
use Rattle.layout.specs.Layout.{Field, pattern, spare, number, code, flag, signed, width_of, Values, write_as, join}
use Rattle.layout.specs.Trouble.{Checked, nothing, wrong, or_else, agreeing, differing, none_of, trouble_in, misfit_in, trouble, misfit}
use Rattle.layout.specs.Rules.{rule_of, slot_of, slots_of, rule_trouble, rule_misfit, raw_of, total, ruled, fitting, sum_at, packed_if, packed_of}
use Rattle.layout.specs.declared.Cause.{Cause}
use Rattle.layout.specs.declared.Cause.TheVariants.{Pattern, Spare, Unused, TooWide}
use Rattle.layout.specs.declared.Rule.TheVariants as R
use Rattle.layout.specs.declared.Slot.{Slot}
use Rattle.layout.specs.declared.Trouble.{Trouble}
use Rattle.bits.proofs.TestLaws.{zero_one}
use Rattle.layout.proofs.LayoutLaws.{is_sayable, are_sound, sayable, pattern_short, first_sound, rest_sound}
use Rattle.layout.proofs.LowestLaws.{agreeing_enough}
use Rattle.bits.proofs.NumberLaws.{num_bit, placed_lt}

-- ---- a rule says what its field allows

bit_lt : (b : Bool) → bit b < 2
bit_lt true = lit< tt
bit_lt false = lit< tt

bit_not : (b : Bool) → eqb (bit (not b)) 0 ≡ b
bit_not true = refl
bit_not false = refl

rule_code : (at : ℕ) (unused : List ℕ) (n : ℕ) → n < 16
    → rule_trouble at (R.Without (num_of (λ i. bit (not (none_of unused i))) 16)) n ≡ pick (none_of unused n) nothing (wrong Unused (at + 1))
rule_code at unused n h =
    rw (num_bit (λ i. bit (not (none_of unused i))) 16 n (λ i. bit_lt (not (none_of unused i))) h)
    (ap (λ (b : Bool). pick b nothing (wrong Unused (at + 1))) (bit_not (none_of unused n)))

-- the code looks at all 64 bits
differing_same : (d : Cause) (at k n x : ℕ) → k ≤ 64 → n < 2 ^ k → x < 2 ^ k → differing d at 64 n x ≡ differing d at k n x
differing_same d at k n x l h g = go (eqb n x) refl
  where
    go : (t : Bool) → eqb n x ≡ t → pick t nothing (wrong d (at + agreeing 64 n x + 1)) ≡ pick t nothing (wrong d (at + agreeing k n x + 1))
    go true e = refl
    go false e = ap (λ (i : ℕ). wrong d (at + i + 1)) (agreeing_enough k 64 n x l h g (eqb-false n x e))

rule_field : (at : ℕ) (f : Field) (n : ℕ) → T (is_sayable f) → n < 2 ^ width_of f → rule_trouble at (rule_of f) n ≡ trouble_in at f n
rule_field at (pattern k c) n t h = differing_same Pattern at k n c (pattern_short k c t).0 h (pattern_short k c t).1
rule_field at (spare k) n t h = differing_same Spare at k n 0 (leb→le _ _ t) h (pow_pos k)
rule_field at (number k) n t h = refl
rule_field at (code k unused) n t h = rule_code at unused n (lt_of_lt_of_le h (leb→le _ _ t))
rule_field at flag n t h = refl
rule_field at (signed k) n t h = refl

pub ruled_layout : (at : ℕ) (fs : List Field) (word : ℕ) → T (are_sound fs) → ruled at (slots_of fs) word ≡ trouble at fs word
ruled_layout at [] word t = refl
ruled_layout at (f ∷ fs) word t =
    ap₂ or_else (rule_field at f (field_of word at (width_of f)) (sayable f (first_sound f fs t)) (mod-lt _ (pow_pos (width_of f))))
    (ruled_layout (at + width_of f) fs word (rest_sound f fs t))

misfit_field : (at : ℕ) (f : Field) (n : ℕ) → T (is_sayable f) → rule_misfit at (slot_of f) n ≡ misfit_in at f n
misfit_field at f n t = go (ltb n (2 ^ width_of f)) _ refl
  where
    go : (b : Bool) (lowest : ℕ) → ltb n (2 ^ width_of f) ≡ b → pick b (rule_trouble at (rule_of f) n) (wrong TooWide lowest) ≡ pick b (trouble_in at f n) (wrong TooWide lowest)
    go true lowest e = rule_field at f n t (ltb-true _ _ e)
    go false lowest e = refl

fitting_layout : (at : ℕ) (fs : List Field) (vs : Values fs) → T (are_sound fs) → fitting at (slots_of fs) (raw_of fs vs) ≡ misfit at fs vs
fitting_layout at [] vs t = refl
fitting_layout at (f ∷ fs) vs t =
    ap₂ or_else (misfit_field at f (write_as f vs.0) (sayable f (first_sound f fs t)))
    (fitting_layout (at + width_of f) fs vs.1 (rest_sound f fs t))

sum_layout : (at : ℕ) (fs : List Field) (vs : Values fs) → sum_at at (slots_of fs) (raw_of fs vs) ≡ join at fs vs
sum_layout at [] vs = refl
sum_layout at (f ∷ fs) vs = ap (λ (n : ℕ). write_as f vs.0 * 2 ^ at + n) (sum_layout (at + width_of f) fs vs.1)

-- packing by a layout's slots joins the values, if nothing is wrong with them
pub packed_layout : (word low : ℕ) (fs : List Field) (vs : Values fs) → T (are_sound fs)
    → packed_of word low (slots_of fs) (raw_of fs vs) ≡ packed_if (misfit low fs vs) (join low fs vs + word)
unfolding packed_of
packed_layout word low fs vs t = ap₂ (λ (u : Checked) (n : ℕ). packed_if u (n + word)) (fitting_layout low fs vs t) (sum_layout low fs vs)

-- what was packed says what is wrong
pub packed_word : (t : Checked) (n w : ℕ) → packed_if t n ≡ Ok w → (t ≡ nothing) × (n ≡ w)
packed_word (Ok u) n w e = (refl, cc)
packed_word (Err t) n w e = zero_one (cc)

pub packed_wrong : (t : Checked) (n : ℕ) (s : Trouble) → packed_if t n ≡ Err s → t ≡ Err s
packed_wrong (Ok u) n s e = zero_one (cc)
packed_wrong (Err t) n s e = cc

-- ---- a turn of the loops

abbrev pub no_slot : Slot
no_slot = record { 0 = 0; 1 = R.Free }

-- slot i
abbrev pub slot_at : List Slot → ℕ → Slot
slot_at ss i = get_or ss i no_slot

-- where the loop over a word's fields stands: field i, at weight 2 ^ at; t is the answer
pub record Ruling (t : Checked) (word : ℕ) (ss : List Slot) (at i : ℕ) : Type 0 where
  pub room : at + total (drop i ss) < 64
  pub rest : t ≡ ruled at (drop i ss) word

module _ {t : Checked} {word : ℕ} {ss : List Slot} {at i : ℕ} (s : Ruling t word ss at i) (l : i < length ss) where
  ruling_step : t ≡ or_else (rule_trouble at (slot_at ss i).1 (field_of word at (slot_at ss i).0)) (ruled (at + (slot_at ss i).0) (drop (i + 1) ss) word)
  ruling_step = s.rest ∙ rw (add-one i, drop-cons ss i no_slot l)

  pub ruling_bad : {x : Trouble} → rule_trouble at (slot_at ss i).1 (field_of word at (slot_at ss i).0) ≡ Err x → t ≡ Err x
  ruling_bad e = ruling_step ∙ rw e

-- where the loop that packs stands, with these slots and numbers to come; p is the answer
pub record Packing (p : Result ℕ Trouble) (word : ℕ) (ss : List Slot) (ns : List ℕ) (at : ℕ) : Type 0 where
  pub room : at + total ss < 64
  pub low : word < 2 ^ at
  pub each : length ss ≡ length ns
  pub rest : p ≡ packed_of word at ss ns

-- a number with which nothing is wrong is not too wide
misfit_lt : (at : ℕ) (s : Slot) (n : ℕ) → rule_misfit at s n ≡ nothing → n < 2 ^ s.0
misfit_lt at s n = go (ltb n (2 ^ s.0)) _ refl
  where
    go : (b : Bool) (lowest : ℕ) → ltb n (2 ^ s.0) ≡ b → pick b (rule_trouble at s.1 n) (wrong TooWide lowest) ≡ nothing → n < 2 ^ s.0
    go true lowest q e = ltb-true _ _ q
    go false lowest q e = zero_one (cc)

module _ {p : Result ℕ Trouble} {word : ℕ} {ss rest-ss : List Slot} {ns rest-ns : List ℕ} {x : Slot} {n : ℕ} {at : ℕ}
    (s : Packing p word ss ns at) (es : ss ≡ x ∷ rest-ss) (en : ns ≡ n ∷ rest-ns) where
  packing_step : p ≡ packed_of word at (x ∷ rest-ss) (n ∷ rest-ns)
  packing_step = s.rest ∙ ap₂ (packed_of word at) es en

  pub packing_room : at + x.0 + total rest-ss < 64
  packing_room = omega (arith, s.room, ap total es)

  packing_each : length rest-ss ≡ length rest-ns
  packing_each = omega (arith, s.each, ap length es, ap length en)

  pub packing_more : rule_misfit at x n ≡ nothing → Packing p (placed_of word at n) rest-ss rest-ns (at + x.0)
  unfolding packed_of
  packing_more e =
      record {
        room = packing_room;
        low = placed_lt word at x.0 n s.low (misfit_lt at x n e);
        each = packing_each;
        rest = packing_step ∙ rw e (ap (packed_if (fitting (at + x.0) rest-ss rest-ns)) sums);
      }
    where
      sums : n * 2 ^ at + sum_at (at + x.0) rest-ss rest-ns + word ≡ sum_at (at + x.0) rest-ss rest-ns + (n * 2 ^ at + word)
      sums = omega arith

  pub packing_bad : {t : Trouble} → rule_misfit at x n ≡ Err t → p ≡ Err t
  unfolding packed_of
  packing_bad e = packing_step ∙ rw e

-- none is to come where the slots are at their end
pub packing_done : {p : Result ℕ Trouble} {word : ℕ} {ss : List Slot} {ns : List ℕ} {at : ℕ} → Packing p word ss ns at → length ss ≡ 0 → p ≡ Ok word
unfolding packed_of
packing_done {word = word} {ss = []} s e = s.rest ∙ rw (zero-add word)
packing_done {ss = x ∷ xs} s e = absurd (omega (arith, e))
