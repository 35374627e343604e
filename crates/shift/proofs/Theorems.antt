-- Laws of a message that is shifted, whichever of a pair it is: the new steps are the nearest and all else stays; it fits again; empty
-- lists change nothing; a shift is taken back by one offset on each axis. Assumes nothing.
use mathlib.Core.Path.{◌≡◌, refl, sym, ap, ap₂, ◌∙◌}
use mathlib.Core.Bool.{true, false}
use mathlib.Core.List.{List, [], ◌∷◌}
use mathlib.Core.Logic.{◌↔◌}
use Prim.Native.Nat.{◌≤◌}
use lib.IntN.{ℤ, pos, neg_ℤ, nat_abs, ◌+ℤ◌, ◌*ℤ◌}
use Rattle.std.specs.Prelude.{Option, Some, None}
use Rattle.layout.specs.Trouble.{nothing}
use Rattle.units.specs.Offsets.{sum_z}
use Rattle.units.specs.Steps.{near, nearest_to, is_step}
use Rattle.units.specs.Nearest.{Nearest, OddMultiple}
use Rattle.units.specs.declared.LinkSteps.{LinkSteps}
use Rattle.message.specs.Codec.{message_trouble}
use Rattle.message.specs.Messages.{kind_of}
use Rattle.message.specs.declared.Message.{Message}
use Rattle.position.specs.Positions.{position_of, is_somewhere, x_of, y_of, placed_at}
use Rattle.shift.specs.Shift.{shifted_from, shifted, shifted_by, x_lands, y_lands}
use Rattle.position.specs.declared.Position.{Position}
use Rattle.bits.proofs.TestLaws.{clash}
use Rattle.units.proofs.Nearest.{near_nearest, nearest_is}
use Rattle.units.proofs.Undo.{moved_to, not_moved, moved_back, never_far}
use Rattle.shift.proofs.PlaceLaws.{placing}

-- ---- a message that is shifted

module _ (m : Message) (dx dy : ℤ) where
  -- one without a position passes through
  pub passes : position_of m ≡ None → shifted m dx dy ≡ m
  passes e = ap (λ (p : Option Position). shifted_from p m dx dy) e

  module _ (x y : LinkSteps) (e : position_of m ≡ Some (record { x = x; y = y })) where
    moved : shifted m dx dy ≡ placed_at m (nearest_to x.0 dx) (nearest_to y.0 dy)
    moved = ap (λ (p : Option Position). shifted_from p m dx dy) e

    position_then : position_of (shifted m dx dy) ≡ Some (record { x = record { 0 = nearest_to x.0 dx }; y = record { 0 = nearest_to y.0 dy } })
    position_then = ap position_of moved ∙ (placing m).there (ap is_somewhere e) _ _

  -- it keeps its kind
  pub shifted_kind : kind_of (shifted m dx dy) ≡ kind_of m
  shifted_kind = go (position_of m) refl
    where
      go : (p : Option Position) → position_of m ≡ p → kind_of (shifted m dx dy) ≡ kind_of m
      go None e = ap kind_of (passes e)
      go (Some p) e = ap kind_of (moved p.x p.y e) ∙ (placing m).kind _ _

  -- and all else
  pub shifted_else : shifted m dx dy ≡ placed_at m (x_of (position_of (shifted m dx dy))) (y_of (position_of (shifted m dx dy)))
  shifted_else = go (position_of m) refl
    where
      go : (p : Option Position) → position_of m ≡ p → shifted m dx dy ≡ placed_at m (x_of (position_of (shifted m dx dy))) (y_of (position_of (shifted m dx dy)))
      go None e = rw (passes e) (sym (placing m).own)
      go (Some at) e = let p = position_then at.x at.y e in moved at.x at.y e ∙ ap₂ (placed_at m) (sym (ap x_of p)) (sym (ap y_of p))

  -- and fits again, if it did and its results are in range
  pub shifted_fits : message_trouble m ≡ nothing → x_lands (position_of m) dx ≡ true → y_lands (position_of m) dy ≡ true → message_trouble (shifted m dx dy) ≡ nothing
  shifted_fits none = go (position_of m) refl
    where
      go : (p : Option Position) → position_of m ≡ p → x_lands p dx ≡ true → y_lands p dy ≡ true → message_trouble (shifted m dx dy) ≡ nothing
      go None e a b = ap message_trouble (passes e) ∙ none
      go (Some p) e a b = ap message_trouble (moved p.x p.y e) ∙ (placing m).fit (ap is_somewhere e) none _ _ a b

-- ---- the nearest steps: each axis is nearest to the exact sum in feet, and all else is as it was

pub record Nearby (m : Message) (xs ys : List ℤ) (n : Message) : Type 0 where
  pub else : n ≡ placed_at m (x_of (position_of n)) (y_of (position_of n))
  pub x : is_somewhere (position_of m) ≡ true → Nearest 750 (pos 750 *ℤ x_of (position_of m) +ℤ sum_z xs) (x_of (position_of n))
  pub y : is_somewhere (position_of m) ≡ true → Nearest 750 (pos 750 *ℤ y_of (position_of m) +ℤ sum_z ys) (y_of (position_of n))
  -- a message without a position passes through
  pub still : is_somewhere (position_of m) ≡ false → n ≡ m

pub shifted_nearby : (m : Message) (xs ys : List ℤ) → Nearby m xs ys (shifted_by xs ys m)
shifted_nearby m xs ys = go (position_of m) refl
  where
    go : (p : Option Position) → position_of m ≡ p → Nearby m xs ys (shifted_by xs ys m)
    go None e =
        record {
          else = shifted_else m (sum_z xs) (sum_z ys);
          x = λ h. absurd (clash h (ap is_somewhere e));
          y = λ h. absurd (clash h (ap is_somewhere e));
          still = λ h. passes m (sum_z xs) (sum_z ys) e;
        }
    go (Some at) e =
        let p = position_then m (sum_z xs) (sum_z ys) at.x at.y e in
        record {
          else = shifted_else m (sum_z xs) (sum_z ys);
          x = λ h. rw (p, e) (near_nearest (pos 750 *ℤ at.x.0 +ℤ sum_z xs));
          y = λ h. rw (p, e) (near_nearest (pos 750 *ℤ at.y.0 +ℤ sum_z ys));
          still = λ h. absurd (clash (ap is_somewhere e) h);
        }

-- ---- when the results are in range: each nearest step is from -4096 to 4095

abbrev pub Lands : Message → List ℤ → List ℤ → Type 0
Lands m xs ys =
    is_somewhere (position_of m) ≡ true
    → ((n : ℤ) → Nearest 750 (pos 750 *ℤ x_of (position_of m) +ℤ sum_z xs) n → is_step n ≡ true)
    × ((n : ℤ) → Nearest 750 (pos 750 *ℤ y_of (position_of m) +ℤ sum_z ys) n → is_step n ≡ true)

pub lands_exactly : (m : Message) (xs ys : List ℤ) → ((x_lands (position_of m) (sum_z xs) ≡ true) × (y_lands (position_of m) (sum_z ys) ≡ true)) ↔ Lands m xs ys
lands_exactly m xs ys = go (position_of m)
  where
    axis : (f : ℤ) → is_step (near f) ≡ true → (n : ℤ) → Nearest 750 f n → is_step n ≡ true
    axis f e n p = ap is_step (nearest_is f n p) ∙ e

    go : (p : Option Position) → ((x_lands p (sum_z xs) ≡ true) × (y_lands p (sum_z ys) ≡ true))
        ↔ (is_somewhere p ≡ true
        → ((n : ℤ) → Nearest 750 (pos 750 *ℤ x_of p +ℤ sum_z xs) n → is_step n ≡ true) × ((n : ℤ) → Nearest 750 (pos 750 *ℤ y_of p +ℤ sum_z ys) n → is_step n ≡ true))
    go None = (λ _ h. absurd (clash h refl), λ _. (refl, refl))
    go (Some p) = (
      λ l h. (axis (pos 750 *ℤ p.x.0 +ℤ sum_z xs) l.0, axis (pos 750 *ℤ p.y.0 +ℤ sum_z ys) l.1),
      λ l. ((l refl).0 _ (near_nearest (pos 750 *ℤ p.x.0 +ℤ sum_z xs)), (l refl).1 _ (near_nearest (pos 750 *ℤ p.y.0 +ℤ sum_z ys))),
    )

-- ---- empty lists: a message is shifted to itself, and lands

pub shifted_empty : (m : Message) → shifted_by [] [] m ≡ m
shifted_empty m = go (position_of m) refl
  where
    go : (p : Option Position) → position_of m ≡ p → shifted_by [] [] m ≡ m
    go None e = passes m (sum_z []) (sum_z []) e
    go (Some p) e =
        moved m (sum_z []) (sum_z []) p.x p.y e
        ∙ ap₂ (placed_at m) (not_moved p.x.0 ∙ sym (ap x_of e)) (not_moved p.y.0 ∙ sym (ap y_of e))
        ∙ (placing m).own

pub empty_lands : (m : Message) → message_trouble m ≡ nothing → (x_lands (position_of m) (sum_z []) ≡ true) × (y_lands (position_of m) (sum_z []) ≡ true)
empty_lands m none = go (position_of m) refl
  where
    go : (p : Option Position) → position_of m ≡ p → (x_lands p (sum_z []) ≡ true) × (y_lands p (sum_z []) ≡ true)
    go None e = (refl, refl)
    go (Some p) e =
        let r = (placing m).range (ap is_somewhere e) none in
        (ap is_step (not_moved p.x.0 ∙ sym (ap x_of e)) ∙ r.0, ap is_step (not_moved p.y.0 ∙ sym (ap y_of e)) ∙ r.1)

-- ---- there and back, by offsets and then by one offset on an axis

-- the one offset takes the list's sum back, which is no odd multiple of 375
abbrev pub TakesBack : List ℤ → List ℤ → Type 0
TakesBack xs us = (us ≡ neg_ℤ (sum_z xs) ∷ []) × (OddMultiple (sum_z xs) → ⊥)

taken_back : (old : ℤ) (xs us : List ℤ) → TakesBack xs us → moved_to (moved_to old xs) us ≡ old
taken_back old xs us (e, odd) = ap (moved_to (moved_to old xs)) e ∙ moved_back old xs odd

module _ (m : Message) (xs ys us vs : List ℤ) where
  -- the message after the way there, and after the way back
  abbrev pub gone : Message
  gone = shifted_by xs ys m

  abbrev pub back : Message
  back = shifted_by us vs gone

  stays_gone : position_of m ≡ None → gone ≡ m
  stays_gone = passes m (sum_z xs) (sum_z ys)

  position_gone : (x y : LinkSteps) → position_of m ≡ Some (record { x = x; y = y }) → position_of gone ≡ Some (record { x = record { 0 = moved_to x.0 xs }; y = record { 0 = moved_to y.0 ys } })
  position_gone = position_then m (sum_z xs) (sum_z ys)

  -- each axis by itself, whatever the other's lists
  pub axes_back : (TakesBack xs us → x_of (position_of back) ≡ x_of (position_of m)) × (TakesBack ys vs → y_of (position_of back) ≡ y_of (position_of m))
  axes_back = go (position_of m) refl
    where
      go : (p : Option Position) → position_of m ≡ p → (TakesBack xs us → x_of (position_of back) ≡ x_of (position_of m)) × (TakesBack ys vs → y_of (position_of back) ≡ y_of (position_of m))
      go None e =
          let s = stays_gone e in
          let same : position_of back ≡ position_of m = ap position_of (passes gone (sum_z us) (sum_z vs) (ap position_of s ∙ e) ∙ s) in
          (λ t. ap x_of same, λ t. ap y_of same)
      go (Some at) e =
          let p = position_then gone (sum_z us) (sum_z vs) _ _ (position_gone at.x at.y e) in
          (λ t. ap x_of p ∙ taken_back at.x.0 xs us t ∙ sym (ap x_of e), λ t. ap y_of p ∙ taken_back at.y.0 ys vs t ∙ sym (ap y_of e))

  -- both
  pub both_back : TakesBack xs us → TakesBack ys vs → back ≡ m
  both_back s t =
      shifted_else gone (sum_z us) (sum_z vs)
      ∙ ap (λ (n : Message). placed_at n (x_of (position_of back)) (y_of (position_of back))) (shifted_else m (sum_z xs) (sum_z ys))
      ∙ (placing m).again _ _ _ _ ∙ ap₂ (placed_at m) (axes_back.0 s) (axes_back.1 t) ∙ (placing m).own

  -- the way back of a message that fits lands
  pub back_lands : message_trouble m ≡ nothing
      → (TakesBack xs us → x_lands (position_of gone) (sum_z us) ≡ true) × (TakesBack ys vs → y_lands (position_of gone) (sum_z vs) ≡ true)
  back_lands none = go (position_of m) refl
    where
      go : (p : Option Position) → position_of m ≡ p → (TakesBack xs us → x_lands (position_of gone) (sum_z us) ≡ true) × (TakesBack ys vs → y_lands (position_of gone) (sum_z vs) ≡ true)
      go None e =
          let p = ap position_of (stays_gone e) ∙ e in
          (λ t. ap (λ (q : Option Position). x_lands q (sum_z us)) p, λ t. ap (λ (q : Option Position). y_lands q (sum_z vs)) p)
      go (Some at) e =
          let p = position_gone at.x at.y e in
          let r = (placing m).range (ap is_somewhere e) none in (
            λ t. ap (λ (q : Option Position). x_lands q (sum_z us)) p ∙ ap is_step (taken_back at.x.0 xs us t ∙ sym (ap x_of e)) ∙ r.0,
            λ t. ap (λ (q : Option Position). y_lands q (sum_z vs)) p ∙ ap is_step (taken_back at.y.0 ys vs t ∙ sym (ap y_of e)) ∙ r.1,
          )

-- a message that fits and lands was not moved by more than 6,144,000 feet
pub lands_near : (m : Message) (xs ys : List ℤ) → is_somewhere (position_of m) ≡ true → message_trouble m ≡ nothing → x_lands (position_of m) (sum_z xs) ≡ true → y_lands (position_of m) (sum_z ys) ≡ true
    → (nat_abs (sum_z xs) ≤ 6144000) × (nat_abs (sum_z ys) ≤ 6144000)
lands_near m xs ys h none = go (position_of m) refl
  where
    go : (p : Option Position) → position_of m ≡ p → x_lands p (sum_z xs) ≡ true → y_lands p (sum_z ys) ≡ true → (nat_abs (sum_z xs) ≤ 6144000) × (nat_abs (sum_z ys) ≤ 6144000)
    go None e a b = absurd (clash h (ap is_somewhere e))
    go (Some at) e a b =
        let r = (placing m).range h none in
        (never_far at.x.0 xs (sym (ap (λ (p : Option Position). is_step (x_of p)) e) ∙ r.0) a, never_far at.y.0 ys (sym (ap (λ (p : Option Position). is_step (y_of p)) e) ∙ r.1) b)
