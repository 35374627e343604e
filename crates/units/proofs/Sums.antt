-- The loop over a list of offsets: its invariant, kept by a turn, and what it gives at the end. Laws of sums. Assumes nothing.
use mathlib.Core.Path.{◌≡◌, refl, sym, ap, ◌∙◌}
use mathlib.Core.Bool.{Bool, true, false}
use mathlib.Core.List.{List, []}
use Prim.Native.Nat.{ℕ, suc, ◌+◌, ◌*◌, ◌≤◌, ◌<◌}
use native.Mathlib.Numerals.{add-one}
use native.Mathlib.Omega.{arith}
use lib.IntN.{ℤ, pos, negsuc, ◌+ℤ◌, +ℤ_idr, +ℤ_assoc}
use lib.ListN.{length, get_or, drop}
use lib.Seq.{drop-cons, drop-length}
use mir.Syntax.{w32}
use mir.Val.{SFits}
use Rattle.std.specs.Prelude.{Option, Some, None}
use Rattle.bits.specs.Tests.{pick, both}
use Rattle.units.specs.Offsets.{is_offset, are_offsets, sum_z, summed_of}
use Rattle.units.specs.declared.Feet.{Feet}
use Rattle.bits.proofs.TestLaws.{zero_one}
use Rattle.units.proofs.Parts.{up, dn, side, add_le, sfits}
use Rattle.units.proofs.Ranges.{within_parts}

-- after i offsets, all in range, s is their sum
pub record Summing (xs : List ℤ) (i : ℕ) (s : ℤ) : Type 0 where
  pub at : i ≤ length xs
  pub few : length xs ≤ 8
  pub checked : are_offsets xs ≡ are_offsets (drop i xs)
  pub added : sum_z xs ≡ s +ℤ sum_z (drop i xs)
  pub high : up s ≤ 6144000 * i
  pub low : dn s ≤ 6144000 * i

offset_parts : (x : ℤ) → is_offset x ≡ true → (up x ≤ 6144000) × (dn x ≤ 6144000)
offset_parts x e = omega (arith, within_parts (negsuc 6143999) (pos 6144000) x e, side x)

module _ (xs : List ℤ) (i : ℕ) (s : ℤ) (inv : Summing xs i s) (h : i < length xs) where
  split : are_offsets xs ≡ both (is_offset (get_or xs i (pos 0))) (are_offsets (drop (suc i) xs))
  unfolding are_offsets
  split = inv.checked ∙ ap are_offsets (drop-cons xs i (pos 0) h)

  pub bad : is_offset (get_or xs i (pos 0)) ≡ false → are_offsets xs ≡ false
  bad e = split ∙ ap (λ (b : Bool). both b (are_offsets (drop (suc i) xs))) e

  module _ (e : is_offset (get_or xs i (pos 0)) ≡ true) where
    pub sum_fits : SFits w32 (s +ℤ get_or xs i (pos 0))
    sum_fits =
        sfits w32 (s +ℤ get_or xs i (pos 0))
        (omega (arith, add_le s (get_or xs i (pos 0)), offset_parts (get_or xs i (pos 0)) e, inv))

    moved : sum_z xs ≡ (s +ℤ get_or xs i (pos 0)) +ℤ sum_z (drop (suc i) xs)
    unfolding sum_z
    moved = inv.added ∙ ap (λ (l : List ℤ). s +ℤ sum_z l) (drop-cons xs i (pos 0) h) ∙ sym (+ℤ_assoc s (get_or xs i (pos 0)) (sum_z (drop (suc i) xs)))

    pub next : Summing xs (i + 1) (s +ℤ get_or xs i (pos 0))
    next =
        record {
          at = omega arith;
          few = inv.few;
          checked = rw add-one (split ∙ ap (λ (b : Bool). both b (are_offsets (drop (suc i) xs))) e);
          added = rw add-one moved;
          high = omega (arith, add_le s (get_or xs i (pos 0)), offset_parts (get_or xs i (pos 0)) e, inv);
          low = omega (arith, add_le s (get_or xs i (pos 0)), offset_parts (get_or xs i (pos 0)) e, inv);
        }

-- ---- the answers

pub refused : (xs : List ℤ) → are_offsets xs ≡ false → None ≡ summed_of xs
unfolding summed_of
refused xs e = simp e

pub done : (xs : List ℤ) (i : ℕ) (s : ℤ) → Summing xs i s → length xs ≤ i → Some (record { 0 = s }) ≡ summed_of xs
unfolding summed_of are_offsets sum_z
done xs i s inv h =
    let n : i ≡ length xs = omega (arith, inv) in
    let d : drop i xs ≡ [] = ap (λ (k : ℕ). drop k xs) n ∙ drop-length xs in
    let c : are_offsets xs ≡ true = inv.checked ∙ ap are_offsets d in
    let a : sum_z xs ≡ s = inv.added ∙ ap (λ (l : List ℤ). s +ℤ sum_z l) d ∙ +ℤ_idr s in
    simp (c, a)

-- ---- what a sum says of its list

pub summed_is : (xs : List ℤ) (s : Feet) → summed_of xs ≡ Some s → (are_offsets xs ≡ true) × (sum_z xs ≡ s.0)
unfolding summed_of
summed_is xs s = go (are_offsets xs)
  where
    go : (b : Bool) → pick b (Some (record { 0 = sum_z xs })) None ≡ Some s → (b ≡ true) × (sum_z xs ≡ s.0)
    go true e = (refl, cc)
    go false e = zero_one (cc)

pub summed_not : (xs : List ℤ) → summed_of xs ≡ None → are_offsets xs ≡ false
unfolding summed_of
summed_not xs = go (are_offsets xs)
  where
    go : (b : Bool) → pick {A = Option Feet} b (Some (record { 0 = sum_z xs })) None ≡ None → b ≡ false
    go true e = zero_one (cc)
    go false e = refl
