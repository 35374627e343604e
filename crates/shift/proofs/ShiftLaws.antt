-- What the shift's steps answer: the lists, then the first message, then the second. Assumes nothing.
use mathlib.Core.Path.{ap, ◌≡◌, refl, sym, ap₂, ◌∙◌}
use mathlib.Core.Bool.{true}
use mathlib.Core.List.{List, [], ◌∷◌}
use mathlib.Core.Logic.{◌↔◌}
use Prim.Native.Nat.{◌≤◌}
use borrow.Author.Tests.{le-leb, leb-true}
use lib.IntN.{ℤ}
use lib.ListN.{length}
use Rattle.std.specs.Prelude.{Ok, Err}
use Rattle.refusal.specs.Refusals.{numbered, success}
use Rattle.refusal.specs.Checks.{first_refusal, answered}
use Rattle.refusal.specs.Table.{◌at◌, in_order}
use Rattle.refusal.specs.declared.Refusal.{Refusal}
use Rattle.units.specs.Offsets.{are_offsets, sum_z}
use Rattle.shift.specs.declared.Offset.{Offset}
use Rattle.message.specs.declared.Message.{Message}
use Rattle.shift.specs.Shift.{shifted, shifted_by, list_checks, result_checks, both_checks, shift_checks, pair_shifted, sums_of, both_shifted, shifted_of}
use Rattle.refusal.proofs.CheckLaws.{success_exactly, stage_refused, stage_passed}

-- ---- the first message, and then the second

module _ (first second : Message) (dx dy : ℤ) where
  pub first_refused : (r : Refusal) → shifted_of first dx dy 1 2 ≡ Err r → Err r ≡ both_shifted first second dx dy
  unfolding shifted_of both_shifted
  first_refused r e =
      stage_refused (result_checks first dx dy 1 2) (result_checks second dx dy 3 4) refl (shifted first dx dy) _ r e

  module _ (a : Message) (e : shifted_of first dx dy 1 2 ≡ Ok a) where
    first_moved : (shifted first dx dy ≡ a)
        × (answered (first_refusal (result_checks second dx dy 3 4)) (shifted first dx dy, shifted second dx dy) ≡ both_shifted first second dx dy)
    unfolding shifted_of both_shifted
    first_moved =
        let p = stage_passed (result_checks first dx dy 1 2) (result_checks second dx dy 3 4) refl (shifted first dx dy) (shifted first dx dy, shifted second dx dy) a e in
        (p.0, p.1)

    pub second_refused : (r : Refusal) → shifted_of second dx dy 3 4 ≡ Err r → Err r ≡ both_shifted first second dx dy
    unfolding shifted_of
    second_refused r f =
        stage_refused (result_checks second dx dy 3 4) [] refl (shifted second dx dy) (shifted first dx dy, shifted second dx dy) r f
        ∙ first_moved.1

    pub both_moved : (b : Message) → shifted_of second dx dy 3 4 ≡ Ok b → Ok (a, b) ≡ both_shifted first second dx dy
    unfolding shifted_of
    both_moved b f =
        let p = stage_passed (result_checks second dx dy 3 4) [] refl (shifted second dx dy) (shifted first dx dy, shifted second dx dy) b f in
        sym (ap₂ (λ (m n : Message). Ok (m, n)) first_moved.0 p.0) ∙ p.1 ∙ first_moved.1

-- ---- the lists, and then both messages

module _ (first second : Message) (xs ys : List ℤ) where
  pub lists_refused : (r : Refusal) → sums_of xs ys ≡ Err r → Err r ≡ pair_shifted first second xs ys
  unfolding sums_of pair_shifted
  lists_refused r e =
      stage_refused (list_checks xs ys) (both_checks first second (sum_z xs) (sum_z ys)) refl (record { x = record { 0 = sum_z xs }; y = record { 0 = sum_z ys } }) _ r e

  pub lists_added : (by : Offset) → sums_of xs ys ≡ Ok by → both_shifted first second by.x.0 by.y.0 ≡ pair_shifted first second xs ys
  unfolding sums_of pair_shifted both_shifted
  lists_added by e =
      let sums : Offset = record { x = record { 0 = sum_z xs }; y = record { 0 = sum_z ys } } in
      let p = stage_passed (list_checks xs ys) (both_checks first second (sum_z xs) (sum_z ys)) refl sums (shifted_by xs ys first, shifted_by xs ys second) by e in
      sym (ap (λ (b : Offset). both_shifted first second b.x.0 b.y.0) p.0) ∙ p.1

  -- 2 X, 2 Y, 9 on X offsets, 9 on Y offsets, 9 on the first message's X and Y, 9 on the second's
  pub shift_order : in_order 12 14 (shift_checks first second xs ys) (2 at 1 ∷ 2 at 2 ∷ 9 at 1 ∷ 9 at 2 ∷ 9 at 1 ∷ 9 at 2 ∷ 9 at 3 ∷ 9 at 4 ∷ []) ≡ true
  shift_order = refl

  -- the lists are taken exactly if each has at most eight offsets, and every offset is in range
  pub lists_exactly :
      (first_refusal (list_checks xs ys) ≡ numbered success) ↔ ((length xs ≤ 8) × (length ys ≤ 8) × (are_offsets xs ≡ true) × (are_offsets ys ≡ true))
  lists_exactly = (
    λ e. let p = (success_exactly (list_checks xs ys) refl).0 e in (leb-true _ _ p.0, leb-true _ _ p.1.0, p.1.1.0, p.1.1.1.0),
    λ w. (success_exactly (list_checks xs ys) refl).1 (le-leb _ _ w.0, (le-leb _ _ w.1, (w.2, (w.3, tt)))),
  )
