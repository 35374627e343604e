-- The kinds' tables are lawful: as long as they say, 43 bits wide, with sound fields; a row by its number. Assumes nothing.
use mathlib.Core.Path.{◌≡◌, refl, sym, ap, ◌∙◌}
use mathlib.Core.Bool.{Bool, true}
use mathlib.Core.List.{List, [], ◌∷◌, map}
use Prim.Native.Nat.{ℕ, ◌+◌, ◌<◌}
use borrow.Author.Tests.{ltb-true, eqb-true}
use lib.Dec.{T, leb, ltb, eqb}
use lib.ListN.{get_or}
use Rattle.bits.specs.Tests.{both}
use Rattle.layout.specs.Rules.{slots_of, total}
use Rattle.kind.specs.Layouts.{all_kinds, number_of, label_of, Placed, bits_of, layout_of}
use Rattle.kind.specs.declared.Kind.{Kind}
use Rattle.kind.specs.declared.Kind.TheVariants.{Blank, S0, S3, S4, S4Plus, S5, S6, S8, S8Plus, S9}
use Rattle.bits.proofs.TestLaws.{both_true, to_t}
use Rattle.layout.proofs.LayoutLaws.{are_sound}

-- ---- a table with a row for each kind, by the kind's number

pub row_at : {A : Type 0} (f : Kind → A) (k : Kind) (d : A) → get_or (map f all_kinds) (number_of k) d ≡ f k
row_at f Blank d = refl
row_at f S0 d = refl
row_at f S3 d = refl
row_at f S4 d = refl
row_at f S4Plus d = refl
row_at f S5 d = refl
row_at f S6 d = refl
row_at f S8 d = refl
row_at f S8Plus d = refl
row_at f S9 d = refl

-- what is computed to be the same in the order of the kinds is the same at each kind
pub each : {A : Type 0} (f g : Kind → A) → map f all_kinds ≡ map g all_kinds → (k : Kind) → f k ≡ g k
each f g e k = sym (row_at f k (g k)) ∙ ap (λ (rows : List _). get_or rows (number_of k) (g k)) e ∙ row_at g k (g k)

-- ---- the layouts

-- what is computed of each kind
abbrev lawful : Kind → Bool
lawful k =
    both (ltb (label_of k) 64) (both (eqb (total (slots_of (layout_of k))) 43) (are_sound (layout_of k)))

laid : (k : Kind) → lawful k ≡ true
laid = each lawful (λ k. true) refl

module _ (k : Kind) where
  parts : (ltb (label_of k) 64 ≡ true) × (eqb (total (slots_of (layout_of k))) 43 ≡ true) × (are_sound (layout_of k) ≡ true)
  parts = let p = both_true (laid k) in let q = both_true p.1 in (p.0, q.0, q.1)

  pub label_lt : label_of k < 64
  label_lt = ltb-true _ _ parts.0

  pub wide : total (slots_of (layout_of k)) ≡ 43
  wide = eqb-true _ _ parts.1

  pub sound : T (are_sound (layout_of k))
  sound = to_t parts.2

-- each field begins behind the one before, from bit 7 to bit 49: its bits are those that are said
abbrev in_row : ℕ → List Placed → Bool
in_row bit [] = eqb bit 50
in_row bit (p ∷ ps) = both (eqb p.first bit) (both (leb p.first p.last) (in_row (p.last + 1) ps))

pub fields_follow : (k : Kind) → in_row 7 (bits_of k) ≡ true
fields_follow = each (λ (k : Kind). in_row 7 (bits_of k)) (λ k. true) refl
