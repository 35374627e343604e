-- The order of offsets does not matter: a list in any other order is as long, as good, and has one sum. Assumes nothing.
use mathlib.Core.Path.{◌≡◌, refl, sym, ap, ap₂, ◌∙◌}
use mathlib.Core.Bool.{Bool, true, false}
use mathlib.Core.List.{List, ◌∷◌, Permᴰ}
use Prim.Native.Nat.{suc}
use lib.IntN.{ℤ, ◌+ℤ◌, +ℤ_assoc, +ℤ_comm}
use lib.ListN.{length}
use Rattle.bits.specs.Tests.{both}
use Rattle.units.specs.Offsets.{is_offset, are_offsets, sum_z}

pub record Alike (xs ys : List ℤ) : Type 0 where
  pub long : length xs ≡ length ys
  pub good : are_offsets xs ≡ are_offsets ys
  pub sum : sum_z xs ≡ sum_z ys

both_exchanged : (a b c : Bool) → both a (both b c) ≡ both b (both a c)
both_exchanged true b c = refl
both_exchanged false true c = refl
both_exchanged false false c = refl

module _ (a b : ℤ) (l : List ℤ) where
  good_exchanged : are_offsets (a ∷ b ∷ l) ≡ are_offsets (b ∷ a ∷ l)
  unfolding are_offsets
  good_exchanged = both_exchanged (is_offset a) (is_offset b) (are_offsets l)

  sum_exchanged : sum_z (a ∷ b ∷ l) ≡ sum_z (b ∷ a ∷ l)
  unfolding sum_z
  sum_exchanged = sym (+ℤ_assoc a b (sum_z l)) ∙ ap (λ (z : ℤ). z +ℤ sum_z l) (+ℤ_comm a b) ∙ +ℤ_assoc b a (sum_z l)

pub alike : {xs ys : List ℤ} → Permᴰ xs ys → Alike xs ys
unfolding are_offsets sum_z
alike Permᴰ.nil = record { long = refl; good = refl; sum = refl }
alike (Permᴰ.cons e d) =
    let i = alike d in
    record {
      long = ap suc i.long;
      good = ap₂ (λ (x : ℤ) (t : Bool). both (is_offset x) t) e i.good;
      sum = ap₂ ◌+ℤ◌ e i.sum;
    }
alike (Permᴰ.swap {a} {b} {l = l} e f) =
    record {
      long = refl;
      good = good_exchanged a b l ∙ ap₂ (λ (x y : ℤ). are_offsets (x ∷ y ∷ l)) f e;
      sum = sum_exchanged a b l ∙ ap₂ (λ (x y : ℤ). sum_z (x ∷ y ∷ l)) f e;
    }
alike (Permᴰ.trans d₁ d₂) =
    let i = alike d₁ in
    let j = alike d₂ in
    record { long = i.long ∙ j.long; good = i.good ∙ j.good; sum = i.sum ∙ j.sum }
