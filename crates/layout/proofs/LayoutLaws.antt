-- The laws of a layout, for any list of fields of any width: what is split is joined again, and the other way round. Assumes nothing.
use mathlib.Core.Path.{◌≡◌, refl, sym, ap, ap₂, subst, ◌∙◌}
use mathlib.Core.Bool.{Bool, true, false}
use mathlib.Core.List.{List, [], ◌∷◌}
use Prim.Native.Nat.{ℕ, zero, suc, ◌+◌, ◌*◌, ◌/◌, ◌%◌, ◌^◌, ◌≤◌, ◌<◌}
use native.Mathlib.Nat.{mod-add-div', mod-lt, add-mul-mod_self_right, add-mul-div_right, mod-eq_of_lt, div-eq_of_lt, zero-add, div-one, mul-one, add-mul, mul_assoc, mul_comm}
use native.Mathlib.Omega.{arith}
use borrow.Author.Tests.{lt-ltb, ltb-true}
use lib.Dec.{T, eqb, leb, ltb, eqb→eq, leb→le, lt→ltb, ltb→lt}
use lib.Pow.{pow_pos, pow-add, shr-shr}
use lib.Signed.{mag}
use Rattle.std.specs.Prelude.{Ok, Err}
use Rattle.bits.specs.Tests.{pick, both}
use Rattle.bits.specs.Twos.{signed_of, unsigned_of}
use Rattle.layout.specs.Layout.{Field, pattern, spare, number, code, flag, signed, width_of, Value, Values, read_as, write_as, split, join}
use Rattle.layout.specs.Trouble.{Checked, nothing, wrong, is_nothing, or_else, none_of, trouble_in, misfit_in, trouble, misfit, allowed, fits}
use Rattle.bits.specs.Numbers.{bit, field_of}
use Rattle.layout.specs.declared.Cause.{Cause}
use Rattle.layout.specs.declared.Cause.TheVariants.{Pattern, Spare, Unused, TooWide}
use Rattle.bits.proofs.TestLaws.{to_t, both_left, both_right, both_intro}
use Rattle.bits.proofs.TwosLaws.{unsigned_signed, signed_range, signed_unsigned}

-- ---- a sound layout: each field has a bit, and a pattern no more bits than its field; its table can say it (see Rules.antt)

abbrev pub is_sayable : Field → Bool
is_sayable (pattern k x) = both (leb k 64) (ltb x (2 ^ k))
is_sayable (spare k) = leb k 64
is_sayable (number k) = true
is_sayable (code k unused) = leb (2 ^ k) 16
is_sayable flag = true
is_sayable (signed k) = true

abbrev pub is_sound : Field → Bool
is_sound f = both (ltb 0 (width_of f)) (is_sayable f)

abbrev pub are_sound : List Field → Bool
are_sound [] = true
are_sound (f ∷ fs) = both (is_sound f) (are_sound fs)

pub has_bit_lem : (f : Field) → T (is_sound f) → 0 < width_of f
has_bit_lem f t = ltb→lt 0 (width_of f) (both_left (ltb 0 (width_of f)) (is_sayable f) t)

pub sayable : (f : Field) → T (is_sound f) → T (is_sayable f)
sayable f t = both_right (ltb 0 (width_of f)) (is_sayable f) t

pub pattern_short : (k x : ℕ) → T (is_sayable (pattern k x)) → (k ≤ 64) × (x < 2 ^ k)
pattern_short k x t = (leb→le _ _ (both_left (leb k 64) (ltb x (2 ^ k)) t), ltb→lt _ _ (both_right (leb k 64) (ltb x (2 ^ k)) t))

module _ (f : Field) (fs : List Field) (t : T (are_sound (f ∷ fs))) where
  pub first_sound : T (is_sound f)
  first_sound = both_left (is_sound f) (are_sound fs) t

  pub rest_sound : T (are_sound fs)
  rest_sound = both_right (is_sound f) (are_sound fs) t

-- ---- one field

bit_eqb : (n : ℕ) → n < 2 → bit (eqb n 1) ≡ n
bit_eqb zero h = refl
bit_eqb (suc zero) h = refl
bit_eqb (suc (suc n)) h = absurd (omega arith)

double : (h : ℕ) → 2 ^ (h + 1) ≡ 2 ^ h * 2
double h = pow-add 2 h 1

-- the bits n may stand in the field
abbrev pub allows : Field → ℕ → Bool
allows (pattern k c) n = eqb n c
allows (spare k) n = eqb n 0
allows (number k) n = true
allows (code k unused) n = none_of unused n
allows flag n = true
allows (signed k) n = true

-- the bits n are those of a value of the field
abbrev pub in_field : Field → ℕ → Bool
in_field f n = both (ltb n (2 ^ width_of f)) (allows f n)

in_width : (f : Field) (n : ℕ) → T (in_field f n) → n < 2 ^ width_of f
in_width f n t = ltb→lt _ _ (both_left (ltb n (2 ^ width_of f)) (allows f n) t)

in_allows : (f : Field) (n : ℕ) → T (in_field f n) → T (allows f n)
in_allows f n t = both_right (ltb n (2 ^ width_of f)) (allows f n) t

write_read : (f : Field) (n : ℕ) → n < 2 ^ width_of f → T (allows f n) → write_as f (read_as f n) ≡ n
write_read (pattern k c) n h t = sym (eqb→eq n c t)
write_read (spare k) n h t = sym (eqb→eq n 0 t)
write_read (number k) n h t = refl
write_read (code k unused) n h t = refl
write_read flag n h t = bit_eqb n h
write_read (signed k) n h t =
    let l : n < 2 ^ k * 2 = rw (double k) at h in
    ap (λ (b : Bool). pick b (unsigned_of (2 ^ k) (signed_of (2 ^ k) n)) (2 ^ (k + 1))) (lt-ltb _ _ (signed_range (2 ^ k) n l)) ∙ unsigned_signed (2 ^ k) n l

read_write : (f : Field) (v : Value f) → T (in_field f (write_as f v)) → read_as f (write_as f v) ≡ v
read_write (pattern k c) v t = refl
read_write (spare k) v t = refl
read_write (number k) v t = refl
read_write (code k unused) v t = refl
read_write flag true t = refl
read_write flag false t = refl
read_write (signed k) v t = go (ltb (mag v) (2 ^ k)) refl (in_width (signed k) (write_as (signed k) v) t)
  where
    go : (b : Bool) → ltb (mag v) (2 ^ k) ≡ b → pick b (unsigned_of (2 ^ k) v) (2 ^ (k + 1)) < 2 ^ (k + 1)
        → signed_of (2 ^ k) (pick b (unsigned_of (2 ^ k) v) (2 ^ (k + 1))) ≡ v
    go true e h = signed_unsigned (2 ^ k) v (ltb-true _ _ e)
    go false e h = absurd (omega arith)

-- ---- nothing is wrong where every field's bits are allowed, whatever the bit at which the layout begins

pub nothing_is : (t : Checked) → is_nothing t ≡ true → t ≡ nothing
nothing_is (Ok u) e = refl
nothing_is (Err t) e = absurd (to_t e)

nothing_if : (b : Bool) (c : Cause) (e : ℕ) → is_nothing (pick b nothing (wrong c e)) ≡ b
nothing_if true c e = refl
nothing_if false c e = refl

nothing_or : (t u : Checked) → is_nothing (or_else t u) ≡ both (is_nothing t) (is_nothing u)
nothing_or (Ok fine) u = refl
nothing_or (Err t) (Ok u) = refl
nothing_or (Err t) (Err s) = refl

nothing_in : (at : ℕ) (f : Field) (n : ℕ) → is_nothing (trouble_in at f n) ≡ allows f n
nothing_in at (pattern k c) n = nothing_if (eqb n c) Pattern _
nothing_in at (spare k) n = nothing_if (eqb n 0) Spare _
nothing_in at (number k) n = refl
nothing_in at (code k unused) n = nothing_if (none_of unused n) Unused _
nothing_in at flag n = refl
nothing_in at (signed k) n = refl

pub allowed_none : (at w : ℕ) → allowed at [] w ≡ eqb (w / 2 ^ at) 0
allowed_none at w = nothing_if (eqb (w / 2 ^ at) 0) Spare _

pub allowed_more : (at : ℕ) (f : Field) (fs : List Field) (w : ℕ)
    → allowed at (f ∷ fs) w ≡ both (allows f (field_of w at (width_of f))) (allowed (at + width_of f) fs w)
allowed_more at f fs w =
    let n : ℕ = field_of w at (width_of f) in
    let u : Checked = trouble (at + width_of f) fs w in
    nothing_or (trouble_in at f n) u ∙ ap (λ (b : Bool). both b (is_nothing u)) (nothing_in at f n)

nothing_misfit : (at : ℕ) (f : Field) (n : ℕ) → is_nothing (misfit_in at f n) ≡ in_field f n
nothing_misfit at f n = go (ltb n (2 ^ width_of f)) _
  where
    go : (b : Bool) (lowest : ℕ) → is_nothing (pick b (trouble_in at f n) (wrong TooWide lowest)) ≡ both b (allows f n)
    go true lowest = nothing_in at f n
    go false lowest = refl

-- a layout, each field taken off the low end

fits' : (fs : List Field) → Values fs → Bool
fits' [] vs = true
fits' (f ∷ fs) vs = both (in_field f (write_as f vs.0)) (fits' fs vs.1)

fits_at : (at : ℕ) (fs : List Field) (vs : Values fs) → is_nothing (misfit at fs vs) ≡ fits' fs vs
unfolding fits'
fits_at at [] vs = refl
fits_at at (f ∷ fs) vs =
    nothing_or (misfit_in at f (write_as f vs.0)) (misfit (at + width_of f) fs vs.1)
    ∙ ap₂ both (nothing_misfit at f (write_as f vs.0)) (fits_at (at + width_of f) fs vs.1)

-- values fit wherever the layout begins
pub fits_anywhere : (at : ℕ) (fs : List Field) (vs : Values fs) → is_nothing (misfit at fs vs) ≡ fits fs vs
fits_anywhere at fs vs = fits_at at fs vs ∙ sym (fits_at 0 fs vs)

pub fits_more : (f : Field) (fs : List Field) (vs : Values (f ∷ fs)) → fits (f ∷ fs) vs ≡ both (in_field f (write_as f vs.0)) (fits fs vs.1)
unfolding fits'
fits_more f fs vs = fits_at 0 (f ∷ fs) vs ∙ ap (both (in_field f (write_as f vs.0))) (sym (fits_at 0 fs vs.1))

allowed' : List Field → ℕ → Bool
allowed' [] w = eqb w 0
allowed' (f ∷ fs) w = both (allows f (w % 2 ^ width_of f)) (allowed' fs (w / 2 ^ width_of f))

split' : (fs : List Field) → ℕ → Values fs
split' [] w = tt
split' (f ∷ fs) w = (read_as f (w % 2 ^ width_of f), split' fs (w / 2 ^ width_of f))

join' : (fs : List Field) → Values fs → ℕ
join' [] vs = 0
join' (f ∷ fs) vs = write_as f vs.0 + join' fs vs.1 * 2 ^ width_of f

split_at : (at : ℕ) (fs : List Field) (w : ℕ) → split at fs w ≡ split' fs (w / 2 ^ at)
unfolding split'
split_at at [] w = refl
split_at at (f ∷ fs) w = λ i. (read_as f (w / 2 ^ at % 2 ^ width_of f), (split_at (at + width_of f) fs w ∙ ap (split' fs) (sym (shr-shr w at (width_of f)))) i)

allowed_at : (at : ℕ) (fs : List Field) (w : ℕ) → allowed at fs w ≡ allowed' fs (w / 2 ^ at)
unfolding allowed'
allowed_at at [] w = allowed_none at w
allowed_at at (f ∷ fs) w = allowed_more at f fs w ∙ ap (both (allows f (w / 2 ^ at % 2 ^ width_of f))) (allowed_at (at + width_of f) fs w ∙ ap (allowed' fs) (sym (shr-shr w at (width_of f))))

regroup : (v j a k : ℕ) → v * a + j * (a * k) ≡ (v + j * k) * a
regroup v j a k = rw (add-mul, mul_assoc, mul_comm k a)

join_at : (at : ℕ) (fs : List Field) (vs : Values fs) → join at fs vs ≡ join' fs vs * 2 ^ at
unfolding join'
join_at at [] vs = omega arith
join_at at (f ∷ fs) vs =
    ap (λ (n : ℕ). write_as f vs.0 * 2 ^ at + n) (join_at (at + width_of f) fs vs.1 ∙ ap (λ (n : ℕ). join' fs vs.1 * n) (pow-add 2 at (width_of f)))
    ∙ regroup (write_as f vs.0) (join' fs vs.1) (2 ^ at) (2 ^ width_of f)

-- the four laws

join_split' : (fs : List Field) (w : ℕ) → T (allowed' fs w) → join' fs (split' fs w) ≡ w
unfolding join' split' allowed'
join_split' [] w t = sym (eqb→eq w 0 t)
join_split' (f ∷ fs) w t =
    let n : ℕ = w % 2 ^ width_of f in
    let a : T (allows f n) = both_left (allows f n) (allowed' fs (w / 2 ^ width_of f)) t in
    let r : T (allowed' fs (w / 2 ^ width_of f)) = both_right (allows f n) (allowed' fs (w / 2 ^ width_of f)) t in
    ap₂ (λ (x y : ℕ). x + y * 2 ^ width_of f) (write_read f n (mod-lt w (pow_pos (width_of f))) a) (join_split' fs (w / 2 ^ width_of f) r)
    ∙ mod-add-div' w (2 ^ width_of f)

fits_split' : (fs : List Field) (w : ℕ) → T (allowed' fs w) → T (fits' fs (split' fs w))
unfolding split' allowed' fits'
fits_split' [] w t = tt
fits_split' (f ∷ fs) w t =
    let n : ℕ = w % 2 ^ width_of f in
    let a : T (allows f n) = both_left (allows f n) (allowed' fs (w / 2 ^ width_of f)) t in
    let r : T (allowed' fs (w / 2 ^ width_of f)) = both_right (allows f n) (allowed' fs (w / 2 ^ width_of f)) t in
    let h : n < 2 ^ width_of f = mod-lt w (pow_pos (width_of f)) in
    both_intro (in_field f (write_as f (read_as f n))) (fits' fs (split' fs (w / 2 ^ width_of f)))
    (subst (λ (x : ℕ). T (in_field f x)) (sym (write_read f n h a)) (both_intro (ltb n (2 ^ width_of f)) (allows f n) (lt→ltb n (2 ^ width_of f) h) a))
    (fits_split' fs (w / 2 ^ width_of f) r)

module _ (f : Field) (fs : List Field) (vs : Values (f ∷ fs)) (t : T (fits' (f ∷ fs) vs)) where
  fit_field : T (in_field f (write_as f vs.0))
  unfolding fits'
  fit_field = both_left (in_field f (write_as f vs.0)) (fits' fs vs.1) t

  fit_width : write_as f vs.0 < 2 ^ width_of f
  fit_width = in_width f (write_as f vs.0) fit_field

  fit_rest : T (fits' fs vs.1)
  unfolding fits'
  fit_rest = both_right (in_field f (write_as f vs.0)) (fits' fs vs.1) t

low : (v j k : ℕ) → v < 2 ^ k → (v + j * 2 ^ k) % 2 ^ k ≡ v
low v j k h = add-mul-mod_self_right v j (2 ^ k) ∙ mod-eq_of_lt h

high : (v j k : ℕ) → v < 2 ^ k → (v + j * 2 ^ k) / 2 ^ k ≡ j
high v j k h = add-mul-div_right v j (pow_pos k) ∙ ap (λ (n : ℕ). n + j) (div-eq_of_lt h) ∙ zero-add j

split_join' : (fs : List Field) (vs : Values fs) → T (fits' fs vs) → split' fs (join' fs vs) ≡ vs
unfolding join' split'
split_join' [] vs t = refl
split_join' (f ∷ fs) vs t =
    let h : write_as f vs.0 < 2 ^ width_of f = fit_width f fs vs t in
    let p : read_as f ((write_as f vs.0 + join' fs vs.1 * 2 ^ width_of f) % 2 ^ width_of f) ≡ vs.0
    = ap (read_as f) (low (write_as f vs.0) (join' fs vs.1) (width_of f) h) ∙ read_write f vs.0 (fit_field f fs vs t) in
    let q : split' fs ((write_as f vs.0 + join' fs vs.1 * 2 ^ width_of f) / 2 ^ width_of f) ≡ vs.1
    = ap (split' fs) (high (write_as f vs.0) (join' fs vs.1) (width_of f) h) ∙ split_join' fs vs.1 (fit_rest f fs vs t) in
    λ i. (p i, q i)

allowed_join' : (fs : List Field) (vs : Values fs) → T (fits' fs vs) → T (allowed' fs (join' fs vs))
unfolding join' allowed'
allowed_join' [] vs t = tt
allowed_join' (f ∷ fs) vs t =
    let h : write_as f vs.0 < 2 ^ width_of f = fit_width f fs vs t in
    let w : ℕ = write_as f vs.0 + join' fs vs.1 * 2 ^ width_of f in
    both_intro (allows f (w % 2 ^ width_of f)) (allowed' fs (w / 2 ^ width_of f))
    (subst (λ (n : ℕ). T (allows f n)) (sym (low (write_as f vs.0) (join' fs vs.1) (width_of f) h)) (in_allows f (write_as f vs.0) (fit_field f fs vs t)))
    (subst (λ (n : ℕ). T (allowed' fs n)) (sym (high (write_as f vs.0) (join' fs vs.1) (width_of f) h)) (allowed_join' fs vs.1 (fit_rest f fs vs t)))

-- the same at the lowest bit, as the definitions of specs/ have them

split_0 : (fs : List Field) (w : ℕ) → split 0 fs w ≡ split' fs w
split_0 fs w = split_at 0 fs w ∙ ap (split' fs) (div-one w)

allowed_0 : (fs : List Field) (w : ℕ) → allowed 0 fs w ≡ allowed' fs w
allowed_0 fs w = allowed_at 0 fs w ∙ ap (allowed' fs) (div-one w)

join_0 : (fs : List Field) (vs : Values fs) → join 0 fs vs ≡ join' fs vs
join_0 fs vs = join_at 0 fs vs ∙ mul-one (join' fs vs)

of_fits : (fs : List Field) (vs : Values fs) → T (fits fs vs) → T (fits' fs vs)
of_fits fs vs t = subst T (fits_at 0 fs vs) t

to_fits : (fs : List Field) (vs : Values fs) → T (fits' fs vs) → T (fits fs vs)
to_fits fs vs t = subst T (sym (fits_at 0 fs vs)) t

pub join_split : (fs : List Field) (w : ℕ) → T (allowed 0 fs w) → join 0 fs (split 0 fs w) ≡ w
join_split fs w t = join_0 fs (split 0 fs w) ∙ ap (join' fs) (split_0 fs w) ∙ join_split' fs w (subst T (allowed_0 fs w) t)

pub fits_split : (fs : List Field) (w : ℕ) → T (allowed 0 fs w) → T (fits fs (split 0 fs w))
fits_split fs w t = subst (λ (vs : Values fs). T (fits fs vs)) (sym (split_0 fs w)) (to_fits fs (split' fs w) (fits_split' fs w (subst T (allowed_0 fs w) t)))

pub split_join : (fs : List Field) (vs : Values fs) → T (fits fs vs) → split 0 fs (join 0 fs vs) ≡ vs
split_join fs vs t = split_0 fs (join 0 fs vs) ∙ ap (split' fs) (join_0 fs vs) ∙ split_join' fs vs (of_fits fs vs t)

pub allowed_join : (fs : List Field) (vs : Values fs) → T (fits fs vs) → T (allowed 0 fs (join 0 fs vs))
allowed_join fs vs t = subst T (sym (allowed_0 fs (join 0 fs vs) ∙ ap (allowed' fs) (join_0 fs vs))) (allowed_join' fs vs (of_fits fs vs t))

-- the first field of what is joined
pub first_join : (f : Field) (fs : List Field) (vs : Values (f ∷ fs)) → T (fits (f ∷ fs) vs) → join 0 (f ∷ fs) vs % 2 ^ width_of f ≡ write_as f vs.0
unfolding join'
first_join f fs vs t = ap (λ (n : ℕ). n % 2 ^ width_of f) (join_0 (f ∷ fs) vs) ∙ low (write_as f vs.0) (join' fs vs.1) (width_of f) (fit_width f fs vs (of_fits (f ∷ fs) vs t))
