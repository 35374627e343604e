-- The two round trips of a message: what is read is written as it was, with the codes of absent modes zeroed, and what is written is read
-- as it was. Assumes nothing.
use mathlib.Core.Path.{◌≡◌, refl, sym, ap, ap₂, subst, ◌∙◌}
use mathlib.Core.Bool.{Bool, true, false}
use mathlib.Core.List.{List, [], ◌∷◌}
use Prim.Native.Nat.{ℕ, ◌+◌, ◌*◌, ◌/◌, ◌%◌, ◌^◌, ◌<◌}
use native.Mathlib.Nat.{add_assoc, add-zero, div-one, mod-lt, zero-mul}
use native.Mathlib.Omega.{arith}
use borrow.Author.Tests.{eq-eqb, eqb-true, lt-ltb}
use lib.Dec.{T, eqb, eqb→eq}
use lib.Pow.{pow_pos}
use lib.Pow.{split as split-pow}
use Rattle.std.specs.Prelude.{Option, Some, None}
use Rattle.bits.specs.Tests.{both}
use Rattle.bits.specs.Numbers.{num_of, field_of}
use Rattle.layout.specs.Layout.{Field, pattern, width_of, Values, split, join}
use Rattle.layout.specs.Trouble.{nothing, is_nothing, misfit, allowed, fits}
use Rattle.layout.specs.Rules.{slots_of, total}
use Rattle.kind.specs.Layouts.{label_of, layout_of, whole_of, all_kinds, iff_layout}
use Rattle.message.specs.Messages.{mode_of, presence_of, code_of, iff_from, iff_parts, made_of, kind_of, parts_of}
use Rattle.kind.specs.Labels.{kind_from, labelled_of, kind_named}
use Rattle.message.specs.Codec.{content_trouble, message_in, message_trouble, message_word}
use Rattle.message.specs.ZeroedMessage.{is_iff, zeroed_bit}
use Rattle.kind.specs.declared.Kind.{Kind}
use Rattle.kind.specs.declared.Kind.TheVariants.{Blank, S0, S3, S4, S4Plus, S5, S6, S8, S8Plus, S9}
use Rattle.message.specs.declared.Iff.{Iff}
use Rattle.message.specs.declared.Message.{Message}
use Rattle.message.specs.declared.Message.TheVariants as m
use Rattle.bits.proofs.TestLaws.{clash, to_t, from_t, both_true, both_right}
use Rattle.bits.proofs.NumberLaws.{num_ext}
use Rattle.layout.proofs.LayoutLaws.{allows, nothing_is, allowed_none, allowed_more, fits_more, fits_anywhere, join_split, fits_split, split_join, allowed_join, first_join}
use Rattle.kind.proofs.LabelLaws.{labelled, label_from}
use Rattle.kind.proofs.TableLaws.{label_lt, wide}
use Rattle.message.proofs.ZeroedLaws.{word_from, other_stays, zeroed_lt, zeroed_iff, label_is, iff_split, iff_trouble}

-- ---- modes

mode_parts : (o : Option ℕ) → mode_of (presence_of o) (code_of o) ≡ o
mode_parts None = refl
mode_parts (Some n) = refl

iff_from_parts : (x : Iff) → iff_from (iff_parts x) ≡ x
iff_from_parts x = λ i. record {
  mode3a = mode_parts x.mode3a i;
  request = x.request;
  emergency = x.emergency;
  validation = x.validation;
  mode1 = mode_parts x.mode1 i;
  mode2 = mode_parts x.mode2 i;
}

-- ---- a line for each kind: all that is said of the kinds one by one

made_parts : (msg : Message) → made_of (kind_of msg) (parts_of msg) ≡ msg
made_parts m.Blank = refl
made_parts m.S0 = refl
made_parts (m.S3 x) = ap m.S3 (iff_from_parts x)
made_parts (m.S4 t) = refl
made_parts (m.S4Plus t) = refl
made_parts (m.S5 a) = refl
made_parts (m.S6 s) = refl
made_parts (m.S8 t) = refl
made_parts (m.S8Plus t) = refl
made_parts (m.S9 c) = refl

-- nothing is wrong with the values of a message, and w is its word; the same of the values of a kind
abbrev pub Writes : Message → ℕ → Type 0
Writes msg w = (message_trouble msg ≡ nothing) × (message_word msg ≡ w)

abbrev WritesAs : (k : Kind) → Values (layout_of k) → ℕ → Type 0
WritesAs k vs w = (misfit 6 (layout_of k) vs ≡ nothing) × (join 0 (whole_of k) (tt, vs) ≡ w)

-- of any kind but S.3 the values that are written are those that were read
writes_made : (k : Kind) (vs : Values (layout_of k)) (w : ℕ) → eqb (label_of k) (label_of S3) ≡ false → WritesAs k vs w → Writes (made_of k vs) w
unfolding message_trouble message_word
writes_made Blank vs w other p = p
writes_made S0 vs w other p = p
writes_made S3 vs w other p = absurd (clash refl other)
writes_made S4 vs w other p = p
writes_made S4Plus vs w other p = p
writes_made S5 vs w other p = p
writes_made S6 vs w other p = p
writes_made S8 vs w other p = p
writes_made S8Plus vs w other p = p
writes_made S9 vs w other p = p

writes_iff : (vs : Values iff_layout) (w : ℕ) → WritesAs S3 (iff_parts (iff_from vs)) w → Writes (m.S3 (iff_from vs)) w
unfolding message_trouble message_word
writes_iff vs w p = p

kind_made : (k : Kind) (vs : Values (layout_of k)) → kind_of (made_of k vs) ≡ k
kind_made Blank vs = refl
kind_made S0 vs = refl
kind_made S3 vs = refl
kind_made S4 vs = refl
kind_made S4Plus vs = refl
kind_made S5 vs = refl
kind_made S6 vs = refl
kind_made S8 vs = refl
kind_made S8Plus vs = refl
kind_made S9 vs = refl

-- ---- labels

-- a word of a kind is as the whole layout has it if the label is the kind's and nothing is wrong above it
whole : (k : Kind) (w : ℕ) → labelled_of w ≡ Some k → content_trouble k w ≡ nothing → T (allowed 0 (whole_of k) w)
whole k w l g =
    let label : w / 1 % 64 ≡ label_of k = ap (λ (n : ℕ). n % 64) (div-one w) ∙ label_from all_kinds (w % 64) k l in
    to_t (allowed_more 0 (pattern 6 (label_of k)) (layout_of k) w ∙ ap₂ both (eq-eqb (w / 1 % 64) (label_of k) label) (ap is_nothing g))

above_label : (k : Kind) (w : ℕ) → T (allowed 0 (whole_of k) w) → content_trouble k w ≡ nothing
above_label k w g =
    let all : both (eqb (w / 1 % 64) (label_of k)) (allowed 6 (layout_of k) w) ≡ true =
    sym (allowed_more 0 (pattern 6 (label_of k)) (layout_of k) w) ∙ from_t (allowed 0 (whole_of k) w) g in
    nothing_is (content_trouble k w) (both_true {a = eqb (w / 1 % 64) (label_of k)} {b = allowed 6 (layout_of k) w} all).1

-- and the values of a kind fit the whole layout if nothing is wrong with them
label_fits : (k : Kind) (vs : Values (layout_of k)) → fits (whole_of k) (tt, vs) ≡ is_nothing (misfit 6 (layout_of k) vs)
label_fits k vs =
    fits_more (pattern 6 (label_of k)) (layout_of k) (tt, vs)
    ∙ ap₂ both (ap₂ both (lt-ltb (label_of k) 64 (label_lt k)) (eq-eqb (label_of k) (label_of k) refl)) (sym (fits_anywhere 6 (layout_of k) vs))

-- ---- read, then written

-- the values of a word as its layout has it are written as that word
writes_split : (k : Kind) (w : ℕ) → T (allowed 0 (whole_of k) w) → WritesAs k (split 6 (layout_of k) w) w
writes_split k w g =
    let vs = split 6 (layout_of k) w in
    (nothing_is (misfit 6 (layout_of k) vs) (sym (label_fits k vs) ∙ from_t (fits (whole_of k) (tt, vs)) (fits_split (whole_of k) w g)), join_split (whole_of k) w g)

module _ (b : ℕ → ℕ) (bits : (i : ℕ) → b i < 2) where
  -- what the word of these bits holds as a message of a kind is written as their word with the codes of absent modes zeroed
  abbrev IsWritten : Kind → Type 0
  IsWritten k = content_trouble k (word_from b) ≡ nothing → Writes (message_in k (word_from b)) (word_from (zeroed_bit b))

  other_written : is_iff b ≡ false → (k : Kind) → labelled_of (word_from b) ≡ Some k → IsWritten k
  other_written e k l g =
      let w = word_from b in
      let label : label_of k ≡ num_of (λ i. b (i + 1)) 6 = sym (label_from all_kinds (w % 64) k l) ∙ label_is b bits in
      let same : w ≡ word_from (zeroed_bit b) = num_ext _ _ 49 (λ i _. sym (other_stays b e (i + 1))) in
      let p = writes_made k (split 6 (layout_of k) w) w (ap (λ (n : ℕ). eqb n 19) label ∙ e) (writes_split k w (whole k w l g)) in
      (p.0, p.1 ∙ same)

  iff_written : is_iff b ≡ true → IsWritten S3
  iff_written e g =
      let w = word_from (zeroed_bit b) in
      let label : labelled_of w ≡ Some S3 = ap (kind_from all_kinds) (label_is (zeroed_bit b) (zeroed_lt b bits) ∙ eqb-true _ _ (zeroed_iff b ∙ e)) in
      writes_iff (split 6 iff_layout (word_from b)) w
      (subst (λ (vs : Values iff_layout). WritesAs S3 vs w) (iff_split b bits e) (writes_split S3 w (whole S3 w label (iff_trouble b bits ∙ g))))

  written : (k : Kind) → labelled_of (word_from b) ≡ Some k → IsWritten k
  written k l = go (is_iff b) refl
    where
      go : (t : Bool) → is_iff b ≡ t → IsWritten k
      go false e = other_written e k l
      go true e =
          let named : Some S3 ≡ Some k = sym (ap (kind_from all_kinds) (label_is b bits ∙ eqb-true _ _ e)) ∙ l in
          let s3 : S3 ≡ k = cc in
          subst IsWritten s3 (iff_written e)

  pub read_written : (k : Kind) (msg : Message) → labelled_of (word_from b) ≡ Some k → content_trouble k (word_from b) ≡ nothing → message_in k (word_from b) ≡ msg
      → Writes msg (word_from (zeroed_bit b))
  read_written k msg l g is = subst (λ (n : Message). Writes n (word_from (zeroed_bit b))) is (written k l g)

-- ---- the digits of absent modes are ignored (02, item 2): with them zeroed a word has the same label, the same first trouble and the same
-- message

-- what is read of a word
abbrev kind_in : ℕ → Kind
kind_in w = kind_named (labelled_of w)

abbrev pub ReadAlike : ℕ → ℕ → Type 0
ReadAlike v w = (labelled_of v ≡ labelled_of w) × (content_trouble (kind_in v) v ≡ content_trouble (kind_in w) w) × (message_in (kind_in v) v ≡ message_in (kind_in w) w)

module _ (b : ℕ → ℕ) (bits : (i : ℕ) → b i < 2) where
  pub digits_unread : ReadAlike (word_from (zeroed_bit b)) (word_from b)
  digits_unread = go (is_iff b) refl
    where
      z : ℕ
      z = word_from (zeroed_bit b)

      w : ℕ
      w = word_from b

      go : (t : Bool) → is_iff b ≡ t → ReadAlike z w
      go false e =
          let same : z ≡ w = num_ext _ _ 49 (λ i _. other_stays b e (i + 1)) in
          (ap labelled_of same, ap (λ (v : ℕ). content_trouble (kind_in v) v) same, ap (λ (v : ℕ). message_in (kind_in v) v) same)
      go true e =
          let lz : labelled_of z ≡ Some S3 = ap (kind_from all_kinds) (label_is (zeroed_bit b) (zeroed_lt b bits) ∙ eqb-true _ _ (zeroed_iff b ∙ e)) in
          let lw : labelled_of w ≡ Some S3 = ap (kind_from all_kinds) (label_is b bits ∙ eqb-true _ _ e) in
          let said : message_in S3 z ≡ message_in S3 w =
          ap (λ (vs : _). m.S3 (iff_from vs)) (iff_split b bits e) ∙ ap m.S3 (iff_from_parts (iff_from (split 6 iff_layout w))) in
          (lz ∙ sym lw, rw (lz, lw) (iff_trouble b bits), rw (lz, lw) said)

-- what a word holds is of the word's kind
pub kind_read : (k : Kind) (w : ℕ) → kind_of (message_in k w) ≡ k
kind_read k w = kind_made k (split 6 (layout_of k) w)

-- ---- written, then read

-- the bits of a layout are all that a word has
allowed_lt : (at : ℕ) (fs : List Field) (w : ℕ) → T (allowed at fs w) → w < 2 ^ (at + total (slots_of fs))
allowed_lt at [] w t =
    let e : w / 2 ^ at * 2 ^ at ≡ 0 = ap (λ (n : ℕ). n * 2 ^ at) (eqb→eq _ 0 (subst T (allowed_none at w) t)) ∙ zero-mul (2 ^ at) in
    let h : w < 2 ^ at = omega (arith, split-pow w at, mod-lt w (pow_pos at)) in
    subst (λ (n : ℕ). w < 2 ^ n) (sym (add-zero at)) h
allowed_lt at (f ∷ fs) w t =
    let rest : T (both (allows f (field_of w at (width_of f))) (allowed (at + width_of f) fs w)) = subst T (allowed_more at f fs w) t in
    subst (λ (n : ℕ). w < 2 ^ n) (add_assoc at (width_of f) (total (slots_of fs)))
    (allowed_lt (at + width_of f) fs w (both_right (allows f (field_of w at (width_of f))) (allowed (at + width_of f) fs w) rest))

-- what is known of the word of a message
pub record Read (msg : Message) (w : ℕ) : Type 0 where
  pub label : labelled_of w ≡ Some (kind_of msg)
  pub content : content_trouble (kind_of msg) w ≡ nothing
  pub message : message_in (kind_of msg) w ≡ msg
  pub short : w < 2 ^ 49

-- the word of a message is read as that message
pub written_read : (msg : Message) (w : ℕ) → Writes msg w → Read msg w
unfolding message_trouble message_word
written_read msg w p =
    let k : Kind = kind_of msg in
    let vs : Values (whole_of k) = (tt, parts_of msg) in
    let f : T (fits (whole_of k) vs) = to_t (label_fits k (parts_of msg) ∙ ap is_nothing p.0) in
    let j : join 0 (whole_of k) vs ≡ w = p.1 in
    let g : T (allowed 0 (whole_of k) w) = subst (λ (n : ℕ). T (allowed 0 (whole_of k) n)) j (allowed_join (whole_of k) vs f) in
    let s : split 6 (layout_of k) w ≡ parts_of msg =
    ap (split 6 (layout_of k)) (sym j) ∙ ap (λ (x : Values (whole_of k)). x.1) (split_join (whole_of k) vs f) in
    let a = above_label k w g in
    record {
      label = ap labelled_of (sym j) ∙ ap (kind_from all_kinds) (first_join (pattern 6 (label_of k)) (layout_of k) vs f) ∙ labelled k;
      content = a;
      message = ap (made_of k) s ∙ made_parts msg;
      short = subst (λ (n : ℕ). w < 2 ^ (6 + n)) (wide k) (allowed_lt 6 (layout_of k) w (to_t (ap is_nothing a)));
    }
