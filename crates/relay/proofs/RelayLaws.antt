-- What the relay's steps answer: opening, the buffer, the shift, and a closing that cannot refuse. Assumes nothing.
use mathlib.Core.Path.{◌≡◌, refl, sym, ap, ap₂, ◌∙◌}
use mathlib.Core.List.{List}
use Prim.Native.Nat.{ℕ}
use borrow.Author.Tests.{eq-eqb, ne_eqb}
use lib.IntN.{ℤ}
use lib.ListN.{length, replicate}
use Rattle.std.specs.Prelude.{Ok, Err}
use Rattle.refusal.specs.Refusals.{numbered, success, bad_length}
use Rattle.refusal.specs.Checks.{first_refusal}
use Rattle.refusal.specs.declared.Refusal.{Refusal}
use Rattle.units.specs.Offsets.{sum_z}
use Rattle.message.specs.declared.Message.{Message}
use Rattle.pair.specs.Pairs.{pair_of}
use Rattle.pair.specs.Opening.{open_checks, open_refusal, open_of}
use Rattle.pair.specs.Closing.{close_refusal, close_image}
use Rattle.shift.specs.Shift.{shifted_by, shift_checks, pair_shifted}
use Rattle.relay.specs.Relay.{first_message, second_message, pair_checks, relay_refusal, image_shifted, relay_image, Relayed}
use Rattle.refusal.proofs.CheckLaws.{Refuses, Passed, success_passed, passed_success, given, left_by, answer_is, answer_not, more_refused, more_passed}
use Rattle.pair.proofs.Demand2.{Legal, opened_closes, closes_legal, legal_closes}
use Rattle.shift.proofs.Theorems.{shifted_kind, shifted_fits}

module _ (image : List ℕ) (xs ys : List ℤ) (buffer : List ℕ) where
  -- a refusal is answered, and the buffer stays
  pub relayed_refused : (r : Refusal) → relay_refusal image xs ys buffer ≡ r → Refuses r → Relayed image xs ys buffer (Err r) buffer
  unfolding relay_image
  relayed_refused r e h = left_by (relay_refusal image xs ys buffer) _ buffer r e h

  -- what opening refuses is passed up whole
  pub open_refused : (r : Refusal) → open_of image ≡ Err r → (relay_refusal image xs ys buffer ≡ r) × Refuses r
  unfolding open_of open_refusal relay_refusal
  open_refused r e =
      let p = answer_not (first_message image, second_message image) (open_refusal image) r e in
      (more_refused (open_checks image) (pair_checks (first_message image) (second_message image) xs ys buffer) refl p.0 p.1, p.1)

-- ---- an image that opens

module _ (first second : Message) (image : List ℕ) (opens : open_of image ≡ Ok (first, second)) where
  pub messages : ((open_refusal image).number ≡ success) × (first_message image ≡ first) × (second_message image ≡ second)
  unfolding open_of
  messages =
      let p = answer_is (first_message image, second_message image) (open_refusal image) (first, second) opens in
      (p.0, ap (λ (m : Message × Message). m.0) p.1, ap (λ (m : Message × Message). m.1) p.1)

  pub opened_legal : Legal first second
  opened_legal = closes_legal first second (replicate 16 0) (opened_closes first second image opens (replicate 16 0) refl).0

  module _ (xs ys : List ℤ) (buffer : List ℕ) where
    pub refusal_opened : relay_refusal image xs ys buffer ≡ first_refusal (pair_checks first second xs ys buffer)
    unfolding relay_refusal open_refusal
    refusal_opened =
        more_passed (open_checks image) (pair_checks (first_message image) (second_message image) xs ys buffer) refl messages.0
        ∙ ap₂ (λ (m n : Message). first_refusal (pair_checks m n xs ys buffer)) messages.1 messages.2

    pub image_opened : (relay_refusal image xs ys buffer).number ≡ success → relay_image image xs ys buffer ≡ image_shifted first second xs ys
    unfolding relay_image
    image_opened z = given (relay_refusal image xs ys buffer) _ buffer z ∙ ap₂ (λ (m n : Message). image_shifted m n xs ys) messages.1 messages.2

-- ---- two messages that are shifted close, if they would have closed before

module _ (first second : Message) (xs ys : List ℤ) where
  shifted_legal : Legal first second → Passed (shift_checks first second xs ys) → Legal (shifted_by xs ys first) (shifted_by xs ys second)
  shifted_legal l p =
      let r = p.1.1.1.1 in
      record {
        paired = ap₂ pair_of (shifted_kind first (sum_z xs) (sum_z ys)) (shifted_kind second (sum_z xs) (sum_z ys)) ∙ l.paired;
        one = shifted_fits first (sum_z xs) (sum_z ys) l.one r.0 r.1.0;
        two = shifted_fits second (sum_z xs) (sum_z ys) l.two r.1.1.0 r.1.1.1.0;
      }

  pub shifted_closes : Legal first second → Passed (shift_checks first second xs ys) → (buffer : List ℕ) → length buffer ≡ 16
      → (close_refusal (shifted_by xs ys first) (shifted_by xs ys second) buffer ≡ numbered success)
      × (close_image (shifted_by xs ys first) (shifted_by xs ys second) buffer ≡ image_shifted first second xs ys)
  unfolding close_image
  shifted_closes l p buffer sixteen =
      let e = legal_closes _ _ (shifted_legal l p) buffer sixteen in
      (e, given (close_refusal _ _ buffer) _ buffer (ap (λ (r : Refusal). r.number) e))

-- ---- the steps of the code, of an image that opens

module _ (first second : Message) (image : List ℕ) (opens : open_of image ≡ Ok (first, second)) (xs ys : List ℤ) (buffer : List ℕ) where
  pub bad_buffer : (length buffer ≡ 16 → ⊥) → relay_refusal image xs ys buffer ≡ numbered bad_length
  bad_buffer h = refusal_opened first second image opens xs ys buffer ∙ rw (ne_eqb _ _ h)

  module _ (sixteen : length buffer ≡ 16) where
    good_buffer : relay_refusal image xs ys buffer ≡ first_refusal (shift_checks first second xs ys)
    good_buffer = refusal_opened first second image opens xs ys buffer ∙ rw (eq-eqb _ _ sixteen)

    pub shift_refused : (r : Refusal) → pair_shifted first second xs ys ≡ Err r → (relay_refusal image xs ys buffer ≡ r) × Refuses r
    unfolding pair_shifted
    shift_refused r e =
        let p = answer_not (shifted_by xs ys first, shifted_by xs ys second) (first_refusal (shift_checks first second xs ys)) r e in
        (good_buffer ∙ p.0, p.1)

    pub shift_closed : (a b : Message) → pair_shifted first second xs ys ≡ Ok (a, b)
        → (close_refusal a b buffer ≡ relay_refusal image xs ys buffer) × (close_image a b buffer ≡ relay_image image xs ys buffer)
    unfolding pair_shifted
    shift_closed a b e =
        let p = answer_is (shifted_by xs ys first, shifted_by xs ys second) (first_refusal (shift_checks first second xs ys)) (a, b) e in
        let is_a = ap (λ (m : Message × Message). m.0) p.1 in
        let is_b = ap (λ (m : Message × Message). m.1) p.1 in
        let passed = success_passed (shift_checks first second xs ys) refl p.0 in
        let c = shifted_closes first second xs ys (opened_legal first second image opens) passed buffer sixteen in
        let good = good_buffer ∙ passed_success (shift_checks first second xs ys) passed in (
          ap₂ (λ (m n : Message). close_refusal m n buffer) (sym is_a) (sym is_b) ∙ c.0 ∙ sym good,
          ap₂ (λ (m n : Message). close_image m n buffer) (sym is_a) (sym is_b) ∙ c.1
              ∙ sym (image_opened first second image opens xs ys buffer (ap (λ (r : Refusal). r.number) good)),
        )
