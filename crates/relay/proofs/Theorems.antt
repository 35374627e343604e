-- THE RELAY (02, item 6), of what the public call answers: what it gives if it is not refused; what it tells of the inside of a message;
-- the order of offsets; empty lists; there and back. Assumes nothing.
use mathlib.Core.Path.{◌≡◌, refl, sym, ap, ap₂, subst, ◌∙◌}
use mathlib.Core.Bool.{Bool, true}
use mathlib.Core.List.{List, [], ◌∷◌, Permᴰ}
use mathlib.Core.Logic.{◌↔◌, ◌⊎◌, ⊎_elim}
use Prim.Native.Nat.{ℕ, ◌≤◌, ◌<◌}
use borrow.Author.Tests.{eq-eqb, eqb-true, le-leb, leb-true}
use lib.Dec.{leb}
use lib.IntN.{ℤ, nat_abs, neg_ℤ}
use lib.ListN.{length}
use Rattle.std.specs.Prelude.{Ok, Err, Option}
use Rattle.bits.specs.Tests.{both}
use Rattle.layout.specs.declared.Cause.{Cause}
use Rattle.refusal.specs.Refusals.{numbered, success, inside_at}
use Rattle.refusal.specs.declared.Refusal.{Refusal}
use Rattle.units.specs.Offsets.{are_offsets, sum_z}
use Rattle.message.specs.declared.Message.{Message}
use Rattle.pair.specs.Opening.{Opened, open_of}
use Rattle.pair.specs.Closing.{close_refusal, close_image}
use Rattle.pair.specs.ZeroedImage.{zeroed_image}
use Rattle.position.specs.Positions.{position_of, is_somewhere, x_of, y_of}
use Rattle.shift.specs.Shift.{shifted_by}
use Rattle.position.specs.declared.Position.{Position}
use Rattle.relay.specs.Relay.{first_message, second_message, pair_checks, relay_checks, relay_refusal, relay_image, image_shifted}
use Rattle.bits.proofs.TestLaws.{both_true}
use Rattle.refusal.proofs.CheckLaws.{Passed, AllInMessage, AllNumbered, success_passed, passed_success, first_told}
use Rattle.units.proofs.Order.{alike}
use Rattle.units.proofs.Undo.{offset_back, too_far_back}
use Rattle.pair.proofs.Demand2.{opened_closes, closed_opens, opened_as}
use Rattle.pair.proofs.FirstTrouble.{open_bits, open_numbers}
use Rattle.shift.proofs.Theorems.{Nearby, shifted_nearby, Lands, lands_exactly, shifted_empty, empty_lands, TakesBack, axes_back, both_back, back_lands, lands_near}
use Rattle.relay.proofs.RelayLaws.{open_refused, opened_legal, messages, refusal_opened, image_opened, shifted_closes}

-- ---- an image that opens, relayed without a refusal

module _ (first second : Message) (image : List ℕ) (opens : open_of image ≡ Ok (first, second)) (xs ys : List ℤ) (buffer : List ℕ) (e : relay_refusal image xs ys buffer ≡ numbered success) where
  passed : Passed (pair_checks first second xs ys buffer)
  passed =
      success_passed (pair_checks first second xs ys buffer) refl (ap (λ (r : Refusal). r.number) (sym (refusal_opened first second image opens xs ys buffer) ∙ e))

  sixteen : length buffer ≡ 16
  sixteen = eqb-true _ _ passed.0

  closes : (close_refusal (shifted_by xs ys first) (shifted_by xs ys second) buffer ≡ numbered success)
      × (close_image (shifted_by xs ys first) (shifted_by xs ys second) buffer ≡ image_shifted first second xs ys)
  closes = shifted_closes first second xs ys (opened_legal first second image opens) passed.1 buffer sixteen

  -- what is written is the shifted pair, closed
  written : relay_image image xs ys buffer ≡ close_image (shifted_by xs ys first) (shifted_by xs ys second) buffer
  written = image_opened first second image opens xs ys buffer (ap (λ (r : Refusal). r.number) e) ∙ sym closes.1

  goes_on : open_of (relay_image image xs ys buffer) ≡ Ok (shifted_by xs ys first, shifted_by xs ys second)
  goes_on = ap open_of written ∙ closed_opens _ _ buffer closes.0

-- ---- when a relay is taken, and what it then gives

-- the image opens; what is written opens; of each message the position is nearest to the exact sum in feet, and all else is as it was
pub record Carried (image : List ℕ) (xs ys : List ℤ) (after : List ℕ) : Type 0 where
  pub came : open_of image ≡ Ok (first_message image, second_message image)
  pub goes : open_of after ≡ Ok (first_message after, second_message after)
  pub one : Nearby (first_message image) xs ys (first_message after)
  pub two : Nearby (second_message image) xs ys (second_message after)

module _ (image : List ℕ) (xs ys : List ℤ) (buffer : List ℕ) where
  came_open : relay_refusal image xs ys buffer ≡ numbered success → open_of image ≡ Ok (first_message image, second_message image)
  came_open e = go (open_of image) refl
    where
      go : (o : Opened) → open_of image ≡ o → open_of image ≡ Ok (first_message image, second_message image)
      go (Err r) f = let p = open_refused image xs ys buffer r f in absurd (p.1 (ap (λ (x : Refusal). x.number) (sym p.0 ∙ e)))
      go (Ok (first, second)) f = opened_as first second image f

  -- the image opens, the buffer has sixteen octets, the lists are short and in range, and every nearest step is one of the link
  pub relay_exactly :
      (relay_refusal image xs ys buffer ≡ numbered success)
      ↔ ((open_of image ≡ Ok (first_message image, second_message image))
      × (length buffer ≡ 16)
      × (length xs ≤ 8)
      × (length ys ≤ 8)
      × (are_offsets xs ≡ true)
      × (are_offsets ys ≡ true)
      × Lands (first_message image) xs ys
      × Lands (second_message image) xs ys)
  relay_exactly = (
    λ e.
        let o = came_open e in
        let p = passed _ _ image o xs ys buffer e in
        let r = p.1.1.1.1.1 in (
          o,
          sixteen _ _ image o xs ys buffer e,
          leb-true _ _ p.1.0,
          leb-true _ _ p.1.1.0,
          p.1.1.1.0,
          p.1.1.1.1.0,
          (lands_exactly (first_message image) xs ys).0 (r.0, r.1.0),
          (lands_exactly (second_message image) xs ys).0 (r.1.1.0, r.1.1.1.0),
        ),
    λ w.
        let a = (lands_exactly (first_message image) xs ys).1 w.6 in
        let b = (lands_exactly (second_message image) xs ys).1 w.7 in
        refusal_opened _ _ image w.0 xs ys buffer
        ∙ passed_success (pair_checks (first_message image) (second_message image) xs ys buffer) (
          eq-eqb _ _ w.1,
          (le-leb _ _ w.2, (le-leb _ _ w.3, (w.4, (w.5, (a.0, (a.1, (b.0, (b.1, tt)))))))),
        ),
  )

  module _ (e : relay_refusal image xs ys buffer ≡ numbered success) where
    -- the two messages afterwards
    after_is : (first_message (relay_image image xs ys buffer) ≡ shifted_by xs ys (first_message image))
        × (second_message (relay_image image xs ys buffer) ≡ shifted_by xs ys (second_message image))
    after_is = let p = messages _ _ (relay_image image xs ys buffer) (goes_on _ _ image (came_open e) xs ys buffer e) in (p.1, p.2)

    pub relay_nearest : Carried image xs ys (relay_image image xs ys buffer)
    relay_nearest =
        record {
          came = came_open e;
          goes = opened_as _ _ _ (goes_on _ _ image (came_open e) xs ys buffer e);
          one = subst (Nearby (first_message image) xs ys) (sym after_is.0) (shifted_nearby (first_message image) xs ys);
          two = subst (Nearby (second_message image) xs ys) (sym after_is.1) (shifted_nearby (second_message image) xs ys);
        }

    -- no digit is left in an absent mode: what is written is its own zeroed image
    pub relay_zeroed : zeroed_image (relay_image image xs ys buffer) ≡ relay_image image xs ys buffer
    relay_zeroed =
        let o = came_open e in
        sym (opened_closes _ _ (relay_image image xs ys buffer) (goes_on _ _ image o xs ys buffer e) buffer (sixteen _ _ image o xs ys buffer e)).1
        ∙ sym (written _ _ image o xs ys buffer e)

  -- ---- what is told of the inside of a message is what opening tells (02, item 4)

  pub relay_bits : AllInMessage (relay_checks image xs ys buffer)
  relay_bits = open_bits image

  pub relay_numbers : AllNumbered 12 14 (relay_checks image xs ys buffer)
  relay_numbers = open_numbers image

  pub relay_first : (place : ℕ) (c : Cause) (b : ℕ) → relay_refusal image xs ys buffer ≡ inside_at place c b → open_of image ≡ Err (inside_at place c b)
  relay_first place c b e = go (open_of image) refl
    where
      go : (o : Opened) → open_of image ≡ o → open_of image ≡ Err (inside_at place c b)
      go (Err r) f = f ∙ ap Err (sym (open_refused image xs ys buffer r f).0 ∙ e)
      go (Ok (first, second)) f =
          absurd
          (first_told (pair_checks first second xs ys buffer) refl place c b (sym (refusal_opened first second image f xs ys buffer) ∙ e)).1.1.1.1.1.1.1.1.1

-- ---- the order of offsets: lists in any other order

pub any_order : (image : List ℕ) {xs us ys vs : List ℤ} (buffer : List ℕ) → Permᴰ xs us → Permᴰ ys vs
    → (relay_refusal image xs ys buffer ≡ relay_refusal image us vs buffer) × (relay_image image xs ys buffer ≡ relay_image image us vs buffer)
unfolding relay_refusal relay_image
any_order image buffer p q =
    let a = alike p in let b = alike q in (rw (a.long, a.good, a.sum, b.long, b.good, b.sum), rw (a.long, a.good, a.sum, b.long, b.good, b.sum))

-- ---- empty lists: an image that opens is relayed to its zeroed image

pub nothing_moves : (first second : Message) (image : List ℕ) → open_of image ≡ Ok (first, second) → (buffer : List ℕ) → length buffer ≡ 16
    → (relay_refusal image [] [] buffer ≡ numbered success) × (relay_image image [] [] buffer ≡ zeroed_image image)
unfolding are_offsets
nothing_moves first second image opens buffer long =
    let l = opened_legal first second image opens in
    let a = empty_lands first l.one in
    let b = empty_lands second l.two in
    let e : relay_refusal image [] [] buffer ≡ numbered success =
    refusal_opened first second image opens [] [] buffer
    ∙ passed_success (pair_checks first second [] [] buffer) (eq-eqb _ _ long, (refl, (refl, (refl, (refl, (a.0, (a.1, (b.0, (b.1, tt))))))))) in (
      e,
      written first second image opens [] [] buffer e ∙ ap₂ (λ (m n : Message). close_image m n buffer) (shifted_empty first) (shifted_empty second)
          ∙ (opened_closes first second image opens buffer long).1,
    )

-- ---- there and back: by offsets, and then by one offset that takes their sum back

-- that offset is a list of one, and can be given if the sum is not over 6,144,000
module _ (xs us : List ℤ) (t : TakesBack xs us) where
  one_long : leb (length us) 8 ≡ true
  one_long = ap (λ (l : List ℤ). leb (length l) 8) t.0

  one_offset : nat_abs (sum_z xs) ≤ 6144000 → are_offsets us ≡ true
  unfolding are_offsets
  one_offset h = ap are_offsets t.0 ∙ ap (λ (b : Bool). both b true) (offset_back (sum_z xs) h)

module _ (image : List ℕ) (xs ys us vs : List ℤ) (buffer buffer' : List ℕ) (e : relay_refusal image xs ys buffer ≡ numbered success) where
  -- the image after the way there, and after the way back
  abbrev pub there : List ℕ
  there = relay_image image xs ys buffer

  abbrev pub back : List ℕ
  back = relay_image there us vs buffer'

  module _ (f : relay_refusal there us vs buffer' ≡ numbered success) where
    returned : (first_message back ≡ shifted_by us vs (shifted_by xs ys (first_message image))) × (second_message back ≡ shifted_by us vs (shifted_by xs ys (second_message image)))
    returned =
        let p = after_is image xs ys buffer e in
        let q = after_is there us vs buffer' f in
        (q.0 ∙ ap (shifted_by us vs) p.0, q.1 ∙ ap (shifted_by us vs) p.1)

    -- one axis of both messages
    abbrev pub Returns : ((Option Position) → ℤ) → Type 0
    Returns axis = (axis (position_of (first_message back)) ≡ axis (position_of (first_message image))) × (axis (position_of (second_message back)) ≡ axis (position_of (second_message image)))

    returns_by : (axis : Option Position → ℤ) → ((m : Message) → axis (position_of (shifted_by us vs (shifted_by xs ys m))) ≡ axis (position_of m)) → Returns axis
    returns_by axis same = (
      ap (λ (m : Message). axis (position_of m)) returned.0 ∙ same (first_message image),
      ap (λ (m : Message). axis (position_of m)) returned.1 ∙ same (second_message image),
    )

    -- each axis by itself, whatever the other's lists
    pub x_returns : TakesBack xs us → Returns x_of
    x_returns t = returns_by x_of (λ m. (axes_back m xs ys us vs).0 t)

    pub y_returns : TakesBack ys vs → Returns y_of
    y_returns t = returns_by y_of (λ m. (axes_back m xs ys us vs).1 t)

    -- both: the whole image, zeroed
    pub image_returns : TakesBack xs us → TakesBack ys vs → back ≡ zeroed_image image
    image_returns s t =
        let o = came_open image xs ys buffer e in
        let g = goes_on _ _ image o xs ys buffer e in
        written _ _ there g us vs buffer' f
        ∙ ap₂ (λ (m n : Message). close_image m n buffer') (both_back (first_message image) xs ys us vs s t) (both_back (second_message image) xs ys us vs s t)
        ∙ (opened_closes _ _ image o buffer' (sixteen _ _ there g us vs buffer' f)).1

  -- ---- when the way back is taken

  -- the sums of a relay that moved a message are never over 6,144,000 feet: the way from one edge to the other is shorter
  pub sums_near : (is_somewhere (position_of (first_message image)) ≡ true) ⊎ (is_somewhere (position_of (second_message image)) ≡ true)
      → (nat_abs (sum_z xs) ≤ 6144000) × (nat_abs (sum_z ys) ≤ 6144000)
  sums_near =
      let o = came_open image xs ys buffer e in
      let l = opened_legal _ _ image o in
      let r = (passed _ _ image o xs ys buffer e).1.1.1.1.1 in
      ⊎_elim (λ h. lands_near (first_message image) xs ys h l.one r.0 r.1.0) (λ h. lands_near (second_message image) xs ys h l.two r.1.1.0 r.1.1.1.0)

  -- so the way back is not refused; nor is that of a pair without a position, unless a sum is over 6,144,000
  pub back_taken : TakesBack xs us → TakesBack ys vs → nat_abs (sum_z xs) ≤ 6144000 → nat_abs (sum_z ys) ≤ 6144000 → length buffer' ≡ 16
      → relay_refusal there us vs buffer' ≡ numbered success
  back_taken s t nx ny long =
      let o = came_open image xs ys buffer e in
      let l = opened_legal _ _ image o in
      let a = back_lands (first_message image) xs ys us vs l.one in
      let b = back_lands (second_message image) xs ys us vs l.two in
      refusal_opened _ _ there (goes_on _ _ image o xs ys buffer e) us vs buffer'
      ∙ passed_success (pair_checks (shifted_by xs ys (first_message image)) (shifted_by xs ys (second_message image)) us vs buffer') (
        eq-eqb _ _ long,
        (one_long xs us s, (one_long ys vs t, (one_offset xs us s nx, (one_offset ys vs t ny, (a.0 s, (a.1 t, (b.0 s, (b.1 t, tt)))))))),
      )

  -- an image with a position comes home
  pub home_again : (is_somewhere (position_of (first_message image)) ≡ true) ⊎ (is_somewhere (position_of (second_message image)) ≡ true)
      → TakesBack xs us → TakesBack ys vs → length buffer' ≡ 16 → (relay_refusal there us vs buffer' ≡ numbered success) × (back ≡ zeroed_image image)
  home_again h s t long = let n = sums_near h in let f = back_taken s t n.0 n.1 long in (f, image_returns f s t)

-- over 6,144,000 feet no one offset can take a sum back: that relay is refused, on either axis
module _ (image : List ℕ) (xs us vs : List ℤ) (buffer : List ℕ) (one : us ≡ neg_ℤ (sum_z xs) ∷ []) (far : 6144000 < nat_abs (sum_z xs)) where
  not_offsets : are_offsets us ≡ true → ⊥
  unfolding are_offsets
  not_offsets g = too_far_back (sum_z xs) far (both_true {b = true} (sym (ap are_offsets one) ∙ g)).0

  pub x_too_far : relay_refusal image us vs buffer ≡ numbered success → ⊥
  x_too_far e = not_offsets (passed _ _ image (came_open image us vs buffer e) us vs buffer e).1.1.1.0

  pub y_too_far : relay_refusal image vs us buffer ≡ numbered success → ⊥
  y_too_far e = not_offsets (passed _ _ image (came_open image vs us buffer e) vs us buffer e).1.1.1.1.0
