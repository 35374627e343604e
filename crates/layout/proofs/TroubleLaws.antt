-- What `trouble` and `misfit` tell is the first trouble, for any layout: none begins at a lower bit. It lies in the layout. Assumes
-- nothing.
use mathlib.Core.Path.{◌≡◌, refl, sym, ap, ap₂, subst, ◌∙◌}
use mathlib.Core.Bool.{Bool, true, false}
use mathlib.Core.List.{List, [], ◌∷◌}
use mathlib.Core.Logic.{◌⊎◌, inl, inr, ⊎_elim}
use Prim.Native.Nat.{ℕ, ◌+◌, ◌/◌, ◌%◌, ◌^◌, ◌≤◌, ◌<◌}
use native.Mathlib.Nat.{add_assoc, mod-lt, div-eq_of_lt, lt_of_lt_of_le}
use native.Mathlib.Omega.{arith}
use borrow.Author.Tests.{eqb-true, eqb-false, ltb-true, ltb-false}
use lib.Dec.{T, eqb, ltb}
use lib.Pow.{pow_pos, pow_mono}
use Rattle.std.specs.Prelude.{Ok, Err}
use Rattle.bits.specs.Tests.{pick}
use Rattle.bits.specs.Numbers.{field_of}
use Rattle.layout.specs.Layout.{Field, pattern, spare, number, code, flag, signed, width_of, Value, Values, write_as}
use Rattle.layout.specs.Trouble.{Checked, nothing, wrong, none_of, or_else, agreeing, differing, trouble_in, misfit_in, trouble, misfit}
use Rattle.layout.specs.Rules.{slots_of, total}
use Rattle.layout.specs.Begins.{Differs, BeginsIn, Begins, MisfitsIn, Misfits, IsFirst}
use Rattle.layout.specs.declared.Cause.{Cause}
use Rattle.layout.specs.declared.Cause.TheVariants.{Pattern, Spare, Unused, TooWide}
use Rattle.bits.proofs.TestLaws.{by_lt, clash, zero_one}
use Rattle.layout.proofs.LayoutLaws.{is_sound, are_sound, has_bit_lem, sayable, pattern_short, first_sound, rest_sound}
use Rattle.layout.proofs.LowestLaws.{agreeing_lowest}

-- ---- first of two

-- the troubles of P all begin at bit m or below, those of Q above it
or_first : (P Q : Cause → ℕ → Type 0) (m : ℕ) (t u : Checked) → IsFirst P t → IsFirst Q u
    → ((c : Cause) (b : ℕ) → P c b → b ≤ m) → ((c : Cause) (b : ℕ) → Q c b → m < b)
    → IsFirst (λ c b. P c b ⊎ Q c b) (or_else t u)
or_first P Q m (Ok u) (Ok v) p q l h = λ c b. ⊎_elim (p c b) (q c b)
or_first P Q m (Ok u) (Err t) p q l h = (inr q.0, λ d e. ⊎_elim (λ x. absurd (p d e x)) (q.1 d e))
or_first P Q m (Err t) u p q l h = (inl p.0, λ d e. ⊎_elim (p.1 d e) (λ x. omega (arith, l t.cause t.bit p.0, h d e x)))

-- ---- one field

differing_first : (d : Cause) (at k n x : ℕ) → n < 2 ^ k → x < 2 ^ k → IsFirst (Differs d at n x) (differing d at k n x)
differing_first d at k n x h g = go (eqb n x) refl
  where
    go : (t : Bool) → eqb n x ≡ t → IsFirst (Differs d at n x) (pick t nothing (wrong d (at + agreeing k n x + 1)))
    go true e = λ c b p. p.3 (ap (λ (m : ℕ). m / 2 ^ p.0 % 2) (eqb-true n x e))
    go false e =
        let l = agreeing_lowest k n x h g (eqb-false n x e) in (
          (agreeing k n x, refl, refl, l.apart),
          λ c b p. by_lt p.0 (agreeing k n x) (λ h. absurd (p.3 (l.below p.0 h))) (λ g. omega (arith, p.2)),
        )

code_first : (at : ℕ) (t : Bool) → IsFirst (λ c b. (c ≡ Unused) × (b ≡ at + 1) × (t ≡ false)) (pick t nothing (wrong Unused (at + 1)))
code_first at true = λ c b p. clash refl p.2
code_first at false = ((refl, refl, refl), λ c b p. omega (arith, p.1))

field_first : (at : ℕ) (f : Field) (n : ℕ) → T (is_sound f) → n < 2 ^ width_of f → IsFirst (BeginsIn at f n) (trouble_in at f n)
field_first at (pattern k x) n t h = differing_first Pattern at k n x h (pattern_short k x (sayable (pattern k x) t)).1
field_first at (spare k) n t h = differing_first Spare at k n 0 h (pow_pos k)
field_first at (number k) n t h = λ c b p. p
field_first at (code k unused) n t h = code_first at (none_of unused n)
field_first at flag n t h = λ c b p. p
field_first at (signed k) n t h = λ c b p. p

-- where two numbers of k bits differ is one of the k
differs_in : (d : Cause) (at k n x : ℕ) → n < 2 ^ k → x < 2 ^ k → (c : Cause) (b : ℕ) → Differs d at n x c b → (at < b) × (b ≤ at + k)
differs_in d at k n x h g c b p =
    by_lt p.0 k (λ l. (omega (arith, p.2), omega (arith, p.2)))
    (λ l. absurd (p.3 (high n h l ∙ sym (high x g l))))
  where
    high : (m : ℕ) → m < 2 ^ k → k ≤ p.0 → m / 2 ^ p.0 % 2 ≡ 0
    high m h l = ap (λ (y : ℕ). y % 2) (div-eq_of_lt (lt_of_lt_of_le h (pow_mono l)))

-- a trouble of a field lies in it
pub in_field : (at : ℕ) (f : Field) (n : ℕ) → T (is_sound f) → n < 2 ^ width_of f → (c : Cause) (b : ℕ) → BeginsIn at f n c b → (at < b) × (b ≤ at + width_of f)
in_field at (pattern k x) n t h c b p = differs_in Pattern at k n x h (pattern_short k x (sayable (pattern k x) t)).1 c b p
in_field at (spare k) n t h c b p = differs_in Spare at k n 0 h (pow_pos k) c b p
in_field at (number k) n t h c b p = absurd p
in_field at (code k unused) n t h c b p = let l : 0 < k = has_bit_lem (code k unused) t in (omega (arith, p.1), omega (arith, p.1))
in_field at flag n t h c b p = absurd p
in_field at (signed k) n t h c b p = absurd p

misfits_first : (at : ℕ) (f : Field) (n : ℕ) → T (is_sound f) → IsFirst (MisfitsIn at f n) (misfit_in at f n)
misfits_first at f n s = go (ltb n (2 ^ width_of f)) refl
  where
    slim : n < 2 ^ width_of f → (t : Checked) → IsFirst (BeginsIn at f n) t → IsFirst (MisfitsIn at f n) t
    slim h (Ok u) p = λ c b. ⊎_elim (λ q. absurd (omega (arith, q.2))) (λ q. p c b q.1)
    slim h (Err t) p = (inr (h, p.0), λ d e. ⊎_elim (λ q. absurd (omega (arith, q.2))) (λ q. p.1 d e q.1))

    go : (t : Bool) → ltb n (2 ^ width_of f) ≡ t → IsFirst (MisfitsIn at f n) (pick t (trouble_in at f n) (wrong TooWide (at + 1)))
    go true e = let h : n < 2 ^ width_of f = ltb-true _ _ e in slim h (trouble_in at f n) (field_first at f n s h)
    go false e =
        let g : 2 ^ width_of f ≤ n = ltb-false _ _ e in (inl (refl, refl, g), λ c b. ⊎_elim (λ q. omega (arith, q.1)) (λ q. absurd (omega (arith, q.0))))

-- a trouble of a value lies in its field
pub in_place : (at : ℕ) (f : Field) (n : ℕ) → T (is_sound f) → (c : Cause) (b : ℕ) → MisfitsIn at f n c b → (at < b) × (b ≤ at + width_of f)
in_place at f n t c b =
    ⊎_elim (λ q. (omega (arith, q.1), omega (arith, q.1, has_bit_lem f t))) (λ q. in_field at f n t q.0 c b q.1)

-- ---- any layout

-- no trouble begins below the layout
pub begins_above : (at : ℕ) (fs : List Field) (word : ℕ) → T (are_sound fs) → (c : Cause) (b : ℕ) → Begins at fs word c b → at < b
begins_above at [] word t c b = λ p. omega (arith, p.1)
begins_above at (f ∷ fs) word t c b =
    ⊎_elim (λ p. (in_field at f (field_of word at (width_of f)) (first_sound f fs t) (mod-lt _ (pow_pos (width_of f))) c b p).0)
    (λ p. omega (arith, begins_above (at + width_of f) fs word (rest_sound f fs t) c b p))

-- nor above it, in a word that has no more bits
pub begins_below : (at : ℕ) (fs : List Field) (word : ℕ) → T (are_sound fs) → word < 2 ^ (at + total (slots_of fs))
    → (c : Cause) (b : ℕ) → Begins at fs word c b → b ≤ at + total (slots_of fs)
begins_below at [] word t h c b =
    let e : word / 2 ^ at ≡ 0 = div-eq_of_lt (lt_of_lt_of_le h (pow_mono (omega arith))) in
    λ p. absurd (p.2 e)
begins_below at (f ∷ fs) word t h c b =
    ⊎_elim (λ p. omega (arith, (in_field at f (field_of word at (width_of f)) (first_sound f fs t) (mod-lt _ (pow_pos (width_of f))) c b p).1))
    (λ p. omega (arith, begins_below (at + width_of f) fs word (rest_sound f fs t) (rw (← add_assoc at (width_of f) (total (slots_of fs))) at h) c b p))

above_first : (at n : ℕ) (t : Bool) → eqb n 0 ≡ t → IsFirst (λ c b. (c ≡ Spare) × (b ≡ at + 1) × (n ≡ 0 → ⊥)) (pick t nothing (wrong Spare (at + 1)))
above_first at n true e = λ c b p. p.2 (eqb-true n 0 e)
above_first at n false e = ((refl, refl, eqb-false n 0 e), λ c b p. omega (arith, p.1))

-- the first trouble of a word is told
pub trouble_first : (at : ℕ) (fs : List Field) (word : ℕ) → T (are_sound fs) → IsFirst (Begins at fs word) (trouble at fs word)
trouble_first at [] word t = above_first at (word / 2 ^ at) (eqb (word / 2 ^ at) 0) refl
trouble_first at (f ∷ fs) word t =
    let n : ℕ = field_of word at (width_of f) in
    or_first (BeginsIn at f n) (Begins (at + width_of f) fs word) (at + width_of f) (trouble_in at f n) (trouble (at + width_of f) fs word)
    (field_first at f n (first_sound f fs t) (mod-lt _ (pow_pos (width_of f)))) (trouble_first (at + width_of f) fs word (rest_sound f fs t))
    (λ c b p. (in_field at f n (first_sound f fs t) (mod-lt _ (pow_pos (width_of f))) c b p).1)
    (begins_above (at + width_of f) fs word (rest_sound f fs t))

pub misfits_in : (at : ℕ) (fs : List Field) (vs : Values fs) → T (are_sound fs) → (c : Cause) (b : ℕ) → Misfits at fs vs c b
    → (at < b) × (b ≤ at + total (slots_of fs))
misfits_in at [] vs t c b = λ p. absurd p
misfits_in at (f ∷ fs) vs t c b =
    ⊎_elim (λ p. let q = in_place at f (write_as f vs.0) (first_sound f fs t) c b p in (q.0, omega (arith, q.1)))
    (λ p. let q = misfits_in (at + width_of f) fs vs.1 (rest_sound f fs t) c b p in (omega (arith, q.0), omega (arith, q.1)))

-- the first trouble of values is told
pub misfit_first : (at : ℕ) (fs : List Field) (vs : Values fs) → T (are_sound fs) → IsFirst (Misfits at fs vs) (misfit at fs vs)
misfit_first at [] vs t = λ c b p. p
misfit_first at (f ∷ fs) vs t =
    let n : ℕ = write_as f vs.0 in
    or_first (MisfitsIn at f n) (Misfits (at + width_of f) fs vs.1) (at + width_of f) (misfit_in at f n) (misfit (at + width_of f) fs vs.1)
    (misfits_first at f n (first_sound f fs t)) (misfit_first (at + width_of f) fs vs.1 (rest_sound f fs t))
    (λ c b p. (in_place at f n (first_sound f fs t) c b p).1)
    (λ c b p. (misfits_in (at + width_of f) fs vs.1 (rest_sound f fs t) c b p).0)

-- ---- which causes: no bits of a word are too wide, and no values break a pattern or set a spare bit

narrow_in : (at : ℕ) (f : Field) (n b : ℕ) → BeginsIn at f n TooWide b → ⊥
narrow_in at (pattern k x) n b p = let e = p.1 in zero_one (cc)
narrow_in at (spare k) n b p = let e = p.1 in zero_one (cc)
narrow_in at (number k) n b p = p
narrow_in at (code k unused) n b p = let e = p.0 in zero_one (cc)
narrow_in at flag n b p = p
narrow_in at (signed k) n b p = p

pub begins_narrow : (at : ℕ) (fs : List Field) (word b : ℕ) → Begins at fs word TooWide b → ⊥
begins_narrow at [] word b = λ p. let e = p.0 in zero_one (cc)
begins_narrow at (f ∷ fs) word b = ⊎_elim (narrow_in at f (field_of word at (width_of f)) b) (begins_narrow (at + width_of f) fs word b)

value_in : (at : ℕ) (f : Field) (v : Value f) (c : Cause) (b : ℕ) → BeginsIn at f (write_as f v) c b → c ≡ Unused
value_in at (pattern k x) v c b p = absurd (p.3 refl)
value_in at (spare k) v c b p = absurd (p.3 refl)
value_in at (number k) v c b p = absurd p
value_in at (code k unused) v c b p = p.0
value_in at flag v c b p = absurd p
value_in at (signed k) v c b p = absurd p

pub misfits_value : (at : ℕ) (fs : List Field) (vs : Values fs) (c : Cause) (b : ℕ) → Misfits at fs vs c b → (c ≡ Unused) ⊎ (c ≡ TooWide)
misfits_value at [] vs c b = λ p. absurd p
misfits_value at (f ∷ fs) vs c b =
    ⊎_elim (⊎_elim (λ p. inr p.0) (λ p. inl (value_in at f vs.0 c b p.1))) (misfits_value (at + width_of f) fs vs.1 c b)

-- ---- one answer

-- at one bit a trouble of one cause begins
abbrev pub OneCause : (Cause → ℕ → Type 0) → Type 0
OneCause P = (c d : Cause) (b : ℕ) → P c b → P d b → c ≡ d

or_cause : (P Q : Cause → ℕ → Type 0) (m : ℕ) → OneCause P → OneCause Q
    → ((c : Cause) (b : ℕ) → P c b → b ≤ m) → ((c : Cause) (b : ℕ) → Q c b → m < b) → OneCause (λ c b. P c b ⊎ Q c b)
or_cause P Q m p q l h c d b (inl x) (inl y) = p c d b x y
or_cause P Q m p q l h c d b (inl x) (inr y) = absurd (omega (arith, l c b x, h d b y))
or_cause P Q m p q l h c d b (inr x) (inl y) = absurd (omega (arith, l d b y, h c b x))
or_cause P Q m p q l h c d b (inr x) (inr y) = q c d b x y

field_cause : (at : ℕ) (f : Field) (n : ℕ) → OneCause (BeginsIn at f n)
field_cause at (pattern k x) n c d b p q = p.1 ∙ sym q.1
field_cause at (spare k) n c d b p q = p.1 ∙ sym q.1
field_cause at (number k) n c d b p q = absurd p
field_cause at (code k unused) n c d b p q = p.0 ∙ sym q.0
field_cause at flag n c d b p q = absurd p
field_cause at (signed k) n c d b p q = absurd p

place_cause : (at : ℕ) (f : Field) (n : ℕ) → OneCause (MisfitsIn at f n)
place_cause at f n c d b (inl x) (inl y) = x.0 ∙ sym y.0
place_cause at f n c d b (inl x) (inr y) = absurd (omega (arith, x.2, y.0))
place_cause at f n c d b (inr x) (inl y) = absurd (omega (arith, x.0, y.2))
place_cause at f n c d b (inr x) (inr y) = field_cause at f n c d b x.1 y.1

pub begins_cause : (at : ℕ) (fs : List Field) (word : ℕ) → T (are_sound fs) → OneCause (Begins at fs word)
begins_cause at [] word t = λ c d b p q. p.0 ∙ sym q.0
begins_cause at (f ∷ fs) word t =
    let n : ℕ = field_of word at (width_of f) in
    or_cause (BeginsIn at f n) (Begins (at + width_of f) fs word) (at + width_of f) (field_cause at f n) (begins_cause (at + width_of f) fs word (rest_sound f fs t))
    (λ c b p. (in_field at f n (first_sound f fs t) (mod-lt _ (pow_pos (width_of f))) c b p).1)
    (begins_above (at + width_of f) fs word (rest_sound f fs t))

pub misfits_cause : (at : ℕ) (fs : List Field) (vs : Values fs) → T (are_sound fs) → OneCause (Misfits at fs vs)
misfits_cause at [] vs t = λ c d b p q. absurd p
misfits_cause at (f ∷ fs) vs t =
    let n : ℕ = write_as f vs.0 in
    or_cause (MisfitsIn at f n) (Misfits (at + width_of f) fs vs.1) (at + width_of f) (place_cause at f n) (misfits_cause (at + width_of f) fs vs.1 (rest_sound f fs t))
    (λ c b p. (in_place at f n (first_sound f fs t) c b p).1)
    (λ c b p. (misfits_in (at + width_of f) fs vs.1 (rest_sound f fs t) c b p).0)

-- two answers that tell the first trouble are equal
pub first_one : (P : Cause → ℕ → Type 0) (t u : Checked) → OneCause P → IsFirst P t → IsFirst P u → t ≡ u
first_one P (Ok u) (Ok v) o p q = refl
first_one P (Ok u) (Err t) o p q = absurd (p t.cause t.bit q.0)
first_one P (Err t) (Ok u) o p q = absurd (q t.cause t.bit p.0)
first_one P (Err t) (Err s) o p q =
    let same : t.bit ≡ s.bit = omega (arith, p.1 s.cause s.bit q.0, q.1 t.cause t.bit p.0) in
    ap₂ wrong (o t.cause s.cause t.bit p.0 (subst (λ (n : ℕ). P s.cause n) (sym same) q.0)) same
