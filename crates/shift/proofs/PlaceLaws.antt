-- A message that is placed elsewhere: what holds of it, kind by kind; and X and Y among the fields of a layout. Assumes nothing.
use mathlib.Core.Path.{◌≡◌, refl, sym, ap, ap₂, ◌∙◌}
use mathlib.Core.Bool.{Bool, true, false}
use mathlib.Core.List.{List, [], ◌∷◌}
use Prim.Native.Nat.{ℕ, zero, suc}
use lib.ListN.{drop}
use lib.IntN.{ℤ}
use lib.Dec.{ltb}
use lib.Signed.{mag}
use native.Mathlib.Omega.{arith}
use borrow.Author.Tests.{ltb-true, lt-ltb}
use Rattle.std.specs.Prelude.{Some}
use Rattle.bits.specs.Tests.{pick, both}
use Rattle.bits.specs.Twos.{unsigned_of}
use Rattle.layout.specs.Layout.{Field, signed, Values, write_as}
use Rattle.layout.specs.Trouble.{nothing, is_nothing, misfit, fits}
use Rattle.units.specs.Steps.{is_step}
use Rattle.kind.specs.Layouts.{track_layout, corner_layout}
use Rattle.message.specs.Codec.{message_trouble}
use Rattle.message.specs.Messages.{kind_of, track_parts, corner_parts}
use Rattle.message.specs.declared.Message.{Message}
use Rattle.message.specs.declared.Message.TheVariants as m
use Rattle.position.specs.Positions.{position_of, is_somewhere, x_of, y_of, placed_at}
use Rattle.bits.proofs.TestLaws.{clash, both_true}
use Rattle.bits.proofs.TwosLaws.{unsigned_lt}
use Rattle.layout.proofs.LayoutLaws.{in_field, fits_more, fits_anywhere, nothing_is}
use Rattle.units.proofs.Ranges.{mag_step, step_mag}

-- ---- X and Y among the fields of a layout: a position is in range just where it fits

-- what fits a layout fits its first field and the rest
fits_parts : (f : Field) (fs : List Field) (vs : Values (f ∷ fs)) → fits (f ∷ fs) vs ≡ true → (in_field f (write_as f vs.0) ≡ true) × (fits fs vs.1 ≡ true)
fits_parts f fs vs e = both_true {a = in_field f (write_as f vs.0)} {b = fits fs vs.1} (sym (fits_more f fs vs) ∙ e)

fits_both : (f : Field) (fs : List Field) (vs : Values (f ∷ fs)) → in_field f (write_as f vs.0) ≡ true → fits fs vs.1 ≡ true → fits (f ∷ fs) vs ≡ true
fits_both f fs vs p q = fits_more f fs vs ∙ ap₂ both p q

-- the values after the first n, and others in their place
after : (n : ℕ) (fs : List Field) → Values fs → Values (drop n fs)
after zero fs vs = vs
after (suc n) [] vs = vs
after (suc n) (f ∷ fs) vs = after n fs vs.1

instead : (n : ℕ) (fs : List Field) → Values fs → Values (drop n fs) → Values fs
instead zero fs vs ws = ws
instead (suc n) [] vs ws = ws
instead (suc n) (f ∷ fs) vs ws = (vs.0, instead n fs vs.1 ws)

fits_after : (n : ℕ) (fs : List Field) (vs : Values fs) → fits fs vs ≡ true → fits (drop n fs) (after n fs vs) ≡ true
unfolding after
fits_after zero fs vs e = e
fits_after (suc n) [] vs e = e
fits_after (suc n) (f ∷ fs) vs e = fits_after n fs vs.1 (fits_parts f fs vs e).1

fits_instead : (n : ℕ) (fs : List Field) (vs : Values fs) (ws : Values (drop n fs)) → fits fs vs ≡ true → fits (drop n fs) ws ≡ true → fits fs (instead n fs vs ws) ≡ true
unfolding instead
fits_instead zero fs vs ws e f = f
fits_instead (suc n) [] vs ws e f = f
fits_instead (suc n) (g ∷ fs) vs ws e f =
    let p = fits_parts g fs vs e in fits_both g fs (vs.0, instead n fs vs.1 ws) p.0 (fits_instead n fs vs.1 ws p.1 f)

-- one axis
in_range : (z : ℤ) → in_field (signed 12) (write_as (signed 12) z) ≡ true → is_step z ≡ true
in_range z e = go (ltb (mag z) 4096) refl (both_true {b = true} e).0
  where
    go : (t : Bool) → ltb (mag z) 4096 ≡ t → ltb (pick t (unsigned_of 4096 z) 8192) 8192 ≡ true → is_step z ≡ true
    go true h q = mag_step z (ltb-true _ _ h)
    go false h q = absurd (omega (arith, ltb-true 8192 8192 q))

in_field_lem : (z : ℤ) → is_step z ≡ true → in_field (signed 12) (write_as (signed 12) z) ≡ true
in_field_lem z e =
    let h = step_mag z e in
    ap (λ (t : Bool). both (ltb (pick t (unsigned_of 4096 z) 8192) 8192) true) (lt-ltb (mag z) 4096 h) ∙ ap (λ (t : Bool). both t true) (lt-ltb _ _ (unsigned_lt 4096 z h))

-- both, where all fields before them are as they were
abbrev axes : List Field
axes = signed 12 ∷ signed 12 ∷ []

both_range : (x y : ℤ) → fits axes (x, (y, tt)) ≡ true → (is_step x ≡ true) × (is_step y ≡ true)
both_range x y e =
    let p = fits_parts (signed 12) (signed 12 ∷ []) (x, (y, tt)) e in
    (in_range x p.0, in_range y (fits_parts (signed 12) [] (y, tt) p.1).0)

both_fit : (x y : ℤ) → is_step x ≡ true → is_step y ≡ true → fits axes (x, (y, tt)) ≡ true
both_fit x y p q = fits_both (signed 12) (signed 12 ∷ []) (x, (y, tt)) (in_field_lem x p) (fits_both (signed 12) [] (y, tt) (in_field_lem y q) refl)

-- so for values with which nothing is wrong
module _ (n : ℕ) (fs : List Field) (vs : Values fs) (none : misfit 6 fs vs ≡ nothing) where
  all_fit : fits fs vs ≡ true
  all_fit = sym (fits_anywhere 6 fs vs) ∙ ap is_nothing none

  fit_after : fits (drop n fs) (after n fs vs) ≡ true
  fit_after = fits_after n fs vs all_fit

  none_instead : (ws : Values (drop n fs)) → fits (drop n fs) ws ≡ true → misfit 6 fs (instead n fs vs ws) ≡ nothing
  none_instead ws f = nothing_is _ (fits_anywhere 6 fs (instead n fs vs ws) ∙ fits_instead n fs vs ws all_fit f)

-- ---- a message that is placed elsewhere

pub record Placing (m : Message) : Type 0 where
  -- it keeps its kind, can be placed again, and is itself where it was
  pub kind : (x y : ℤ) → kind_of (placed_at m x y) ≡ kind_of m
  pub again : (x y u v : ℤ) → placed_at (placed_at m x y) u v ≡ placed_at m u v
  pub own : placed_at m (x_of (position_of m)) (y_of (position_of m)) ≡ m
  -- if it has a position, it then has the new one, which fits; and the old one did
  pub there : is_somewhere (position_of m) ≡ true → (x y : ℤ) → position_of (placed_at m x y) ≡ Some (record { x = record { 0 = x }; y = record { 0 = y } })
  pub fit : is_somewhere (position_of m) ≡ true → message_trouble m ≡ nothing → (x y : ℤ) → is_step x ≡ true → is_step y ≡ true → message_trouble (placed_at m x y) ≡ nothing
  pub range : is_somewhere (position_of m) ≡ true → message_trouble m ≡ nothing → (is_step (x_of (position_of m)) ≡ true) × (is_step (y_of (position_of m)) ≡ true)

-- one that has none
nowhere : (m : Message) → is_somewhere (position_of m) ≡ false → ((x y : ℤ) → placed_at m x y ≡ m) → Placing m
nowhere m h still =
    record {
      kind = λ x y. ap kind_of (still x y);
      again = λ x y u v. ap (λ (n : Message). placed_at n u v) (still x y);
      own = still (x_of (position_of m)) (y_of (position_of m));
      there = λ p. absurd (clash p h);
      fit = λ p. absurd (clash p h);
      range = λ p. absurd (clash p h);
    }

-- one that has one
somewhere : (m : Message) → ((x y : ℤ) → kind_of (placed_at m x y) ≡ kind_of m) → ((x y u v : ℤ) → placed_at (placed_at m x y) u v ≡ placed_at m u v)
    → placed_at m (x_of (position_of m)) (y_of (position_of m)) ≡ m → ((x y : ℤ) → position_of (placed_at m x y) ≡ Some (record { x = record { 0 = x }; y = record { 0 = y } }))
    → (message_trouble m ≡ nothing → (ws : Values axes) → fits axes ws ≡ true → message_trouble (placed_at m ws.0 ws.1.0) ≡ nothing)
    → (message_trouble m ≡ nothing → fits axes (x_of (position_of m), (y_of (position_of m), tt)) ≡ true) → Placing m
somewhere m kind again own there fit range =
    record {
      kind = kind;
      again = again;
      own = own;
      there = λ h. there;
      fit = λ h none x y p q. fit none (x, (y, tt)) (both_fit x y p q);
      range = λ h none. both_range _ _ (range none);
    }

-- kind by kind; X and Y come after two fields of a track, six of a corner
pub placing : (m : Message) → Placing m
unfolding message_trouble after instead
placing m.Blank = nowhere m.Blank refl (λ x y. refl)
placing m.S0 = nowhere m.S0 refl (λ x y. refl)
placing (m.S3 i) = nowhere (m.S3 i) refl (λ x y. refl)
placing (m.S4 t) = somewhere (m.S4 t) (λ x y. refl) (λ x y u v. refl) refl (λ x y. refl) (none_instead 2 track_layout (track_parts t)) (fit_after 2 track_layout (track_parts t))
placing (m.S4Plus t) = somewhere (m.S4Plus t) (λ x y. refl) (λ x y u v. refl) refl (λ x y. refl) (none_instead 2 track_layout (track_parts t)) (fit_after 2 track_layout (track_parts t))
placing (m.S5 a) = nowhere (m.S5 a) refl (λ x y. refl)
placing (m.S6 s) = nowhere (m.S6 s) refl (λ x y. refl)
placing (m.S8 t) = somewhere (m.S8 t) (λ x y. refl) (λ x y u v. refl) refl (λ x y. refl) (none_instead 2 track_layout (track_parts t)) (fit_after 2 track_layout (track_parts t))
placing (m.S8Plus t) = somewhere (m.S8Plus t) (λ x y. refl) (λ x y u v. refl) refl (λ x y. refl) (none_instead 2 track_layout (track_parts t)) (fit_after 2 track_layout (track_parts t))
placing (m.S9 c) = somewhere (m.S9 c) (λ x y. refl) (λ x y u v. refl) refl (λ x y. refl) (none_instead 6 corner_layout (corner_parts c)) (fit_after 6 corner_layout (corner_parts c))
