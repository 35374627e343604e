-- More small facts, most of them computed: altitudes, and the codes on opening; and of each definition that only theorems cite,
-- something that it takes and something that it does not, so that one that takes too much or too little is refused here. Assumes nothing.
use mathlib.Core.Path.{◌≡◌, refl, sym, ap, ◌∙◌}
use mathlib.Core.Bool.{Bool, true, false}
use mathlib.Core.List.{List, [], ◌∷◌, ◌++◌, map}
use mathlib.Core.Logic.{inl, inr, ⊎_elim}
use Prim.Native.Nat.{ℕ, zero, suc, ◌+◌, ◌-◌, ◌*◌, ◌/◌, ◌%◌, ◌^◌}
use native.Mathlib.Omega.{arith}
use lib.Dec.{lit≤, lit<}
use lib.IntN.{ℤ, pos, negsuc, ◌+ℤ◌}
use lib.ListN.{replicate}
use Rattle.bits.specs.Tests.{both}
use Rattle.bits.specs.Numbers.{num_of, sum_of, tab}
use Rattle.bits.specs.Octets.{AreOctets, octets_of}
use Rattle.layout.specs.Begins.{Begins, IsFirst}
use Rattle.layout.specs.Trouble.{nothing as no_trouble, wrong, agreeing}
use Rattle.layout.specs.declared.Cause.{Cause}
use Rattle.layout.specs.declared.Cause.TheVariants.{Spare, Unused}
use Rattle.refusal.specs.Refusals.{numbered_in, troubled}
use Rattle.refusal.specs.Checks.{check, check_at, inside}
use Rattle.refusal.specs.Table.{of_table, ◌at◌, ◌to◌at◌, in_order, among}
use Rattle.kind.specs.Layouts.{iff_layout}
use Rattle.kind.specs.declared.Kind.{Kind}
use Rattle.kind.specs.declared.Kind.TheVariants as k
use Rattle.units.specs.Offsets.{within, is_offset, are_offsets, sum_z}
use Rattle.units.specs.Steps.{near, is_step}
use Rattle.units.specs.Heights.{near_alt, altitude_of, height_refusal, height_of}
use Rattle.units.specs.Nearest.{dist, Nearest, OddMultiple}
use Rattle.message.specs.Codec.{content_trouble, message_word}
use Rattle.message.specs.declared.Message.{Message}
use Rattle.message.specs.declared.Message.TheVariants as m
use Rattle.words.specs.Words.{image_of}
use Rattle.pair.specs.ZeroedImage.{zeroed_image, Clear}
use Rattle.bits.proofs.TestLaws.{clash}
use Rattle.units.proofs.Nearest.{near_nearest, nearest_is}
use Rattle.message.proofs.FirstTrouble.{content_first}
use Rattle.pair.proofs.ZeroedLaws.{own_clear}
use Rattle.link1.proofs.Asking.{asked_altitude, nothing, value, told, answer, Row, ◌⇒◌, answers, expected, track}
use Rattle.link1.proofs.FactValues.{image_iff_c, image_digits_c}
use Rattle.link1.proofs.Demand2.{InRange, Shifts}

-- ---- altitudes (01, 'Messages'): 1 from 375 feet down, also at and below the sea, and never 0
abbrev pub altitudes : List Row
altitudes =
    (asked_altitude (negsuc 2147483647) ⇒ told 0 0 (value 1))
    ∷ (asked_altitude (negsuc 0) ⇒ told 0 0 (value 1))
    ∷ (asked_altitude (pos 0) ⇒ told 0 0 (value 1))
    ∷ (asked_altitude (pos 187) ⇒ told 0 0 (value 1))
    ∷ (asked_altitude (pos 375) ⇒ told 0 0 (value 1))
    ∷ (asked_altitude (pos 376) ⇒ told 0 0 (value 1))
    ∷ (asked_altitude (pos 2147483647) ⇒ told 9 0 nothing)
    ∷ []

pub altitudes_hold : answers altitudes ≡ expected altitudes
unfolding answer near_alt altitude_of height_refusal height_of
altitudes_hold = refl

-- ---- codes (01, 'Messages'): the number that opening tells of each value of a field, by the field's first bit, with all other bits above
-- the label zero

abbrev tells_of : Kind → ℕ → ℕ → List ℕ
tells_of kind first many = tab (λ n. (troubled 1 (content_trouble kind (n * 2 ^ (first - 1)))).number) many

-- request/reply, strength and elevation
pub codes_opened_are :
    tells_of k.S3 21 8 ∷ tells_of k.S5 16 8 ∷ tells_of k.S6 40 16 ∷ []
    ≡ (0 ∷ 14 ∷ 0 ∷ 14 ∷ 0 ∷ 14 ∷ 14 ∷ 14 ∷ []) ∷ (0 ∷ 14 ∷ replicate 6 0) ∷ (replicate 13 0 ++ 14 ∷ 14 ∷ 14 ∷ []) ∷ []
unfolding tab agreeing
codes_opened_are = refl

-- every other code is carried, also those called spare: quality; identification, special, traffic class, allocation, special; width, type,
-- sensor; area, corner
pub codes_carried :
    tells_of k.S4 22 4
    ∷ tells_of k.S5 19 16
    ∷ tells_of k.S5 23 4
    ∷ tells_of k.S5 27 4
    ∷ tells_of k.S5 37 4
    ∷ tells_of k.S5 39 8
    ∷ tells_of k.S6 8 8
    ∷ tells_of k.S6 11 4
    ∷ tells_of k.S6 32 8
    ∷ tells_of k.S9 7 4
    ∷ tells_of k.S9 17 4
    ∷ []
    ≡ map (λ (many : ℕ). replicate many 0) (4 ∷ 16 ∷ 4 ∷ 4 ∷ 4 ∷ 8 ∷ 8 ∷ 4 ∷ 8 ∷ 4 ∷ 4 ∷ [])
unfolding tab agreeing
codes_carried = refl

-- ---- 01's table of numbers, as 02 amends it: number, place and bit

-- each number at its least and its greatest place and bit
pub table_has :
    map of_table
    (numbered_in 0 0 0 ∷ numbered_in 1 0 0 ∷ numbered_in 2 0 0 ∷ numbered_in 2 2 0 ∷ numbered_in 3 0 0 ∷ numbered_in 4 0 0 ∷ numbered_in 5 0 0 ∷ numbered_in 6 0 0 ∷ numbered_in 6 2 0
    ∷ numbered_in 7 0 0 ∷ numbered_in 9 0 0 ∷ numbered_in 9 4 0 ∷ numbered_in 10 0 0 ∷ numbered_in 12 1 7 ∷ numbered_in 12 2 49 ∷ numbered_in 13 1 7 ∷ numbered_in 13 2 49
    ∷ numbered_in 14 1 7 ∷ numbered_in 14 2 49 ∷ numbered_in 15 1 7 ∷ numbered_in 15 2 49 ∷ [])
    ≡ replicate 21 true
table_has = refl

-- 8, 11, 16; a place or a bit too many or too few
pub table_lacks :
    map of_table
    (numbered_in 8 0 0 ∷ numbered_in 8 1 0 ∷ numbered_in 11 0 0 ∷ numbered_in 16 0 0 ∷ numbered_in 0 1 0 ∷ numbered_in 0 0 1 ∷ numbered_in 1 1 0 ∷ numbered_in 2 3 0 ∷ numbered_in 2 0 7
    ∷ numbered_in 3 1 0 ∷ numbered_in 4 1 0 ∷ numbered_in 5 1 0 ∷ numbered_in 6 3 0 ∷ numbered_in 7 1 0 ∷ numbered_in 9 5 0 ∷ numbered_in 10 1 0
    ∷ numbered_in 12 0 7 ∷ numbered_in 12 3 7 ∷ numbered_in 12 1 6 ∷ numbered_in 12 1 50 ∷ numbered_in 13 1 0 ∷ numbered_in 14 0 21 ∷ numbered_in 15 2 50 ∷ [])
    ≡ replicate 23 false
table_lacks = refl

-- ---- an order of checks, and what is told in it

-- as it stands; two exchanged, one left out, one too many, another place, other numbers inside, another message
pub orders_are :
    in_order 12 14 (check true 2 ∷ check_at true 6 1 ∷ inside 2 no_trouble ∷ []) (2 at 0 ∷ 6 at 1 ∷ 12 to 14 at 2 ∷ [])
    ∷ in_order 12 14 (check_at true 6 1 ∷ check true 2 ∷ inside 2 no_trouble ∷ []) (2 at 0 ∷ 6 at 1 ∷ 12 to 14 at 2 ∷ [])
    ∷ in_order 12 14 (check true 2 ∷ inside 2 no_trouble ∷ []) (2 at 0 ∷ 6 at 1 ∷ 12 to 14 at 2 ∷ [])
    ∷ in_order 12 14 (check true 2 ∷ check_at true 6 1 ∷ inside 2 no_trouble ∷ []) (2 at 0 ∷ 6 at 1 ∷ [])
    ∷ in_order 12 14 (check true 2 ∷ check_at true 6 2 ∷ inside 2 no_trouble ∷ []) (2 at 0 ∷ 6 at 1 ∷ 12 to 14 at 2 ∷ [])
    ∷ in_order 14 15 (check true 2 ∷ check_at true 6 1 ∷ inside 2 no_trouble ∷ []) (2 at 0 ∷ 6 at 1 ∷ 12 to 14 at 2 ∷ [])
    ∷ in_order 12 14 (check true 2 ∷ check_at true 6 1 ∷ inside 1 no_trouble ∷ []) (2 at 0 ∷ 6 at 1 ∷ 12 to 14 at 2 ∷ [])
    ∷ []
    ≡ true ∷ replicate 6 false
orders_are = refl

-- success, and what a step tells; another number, another place
pub among_are :
    map (among (2 at 0 ∷ 6 at 1 ∷ 12 to 14 at 2 ∷ []))
    (numbered_in 0 0 0 ∷ numbered_in 2 0 0 ∷ numbered_in 6 1 0 ∷ numbered_in 12 2 7 ∷ numbered_in 14 2 7 ∷ numbered_in 3 0 0 ∷ numbered_in 2 1 0 ∷ numbered_in 6 2 0 ∷ numbered_in 13 1 7
    ∷ numbered_in 11 2 7 ∷ numbered_in 15 2 7 ∷ [])
    ≡ replicate 5 true ++ replicate 6 false
among_are = refl

-- ---- steps, offsets, odd multiples

-- -4097, -4096, 4095, 4096
pub steps_are : map is_step (negsuc 4096 ∷ negsuc 4095 ∷ pos 4095 ∷ pos 4096 ∷ []) ≡ false ∷ true ∷ true ∷ false ∷ []
unfolding within
steps_are = refl

-- -6,144,001, -6,144,000, 6,144,000, 6,144,001; no offset; a bad one behind a good one
pub offsets_are :
    map are_offsets ((negsuc 6144000 ∷ []) ∷ (negsuc 6143999 ∷ []) ∷ (pos 6144000 ∷ []) ∷ (pos 6144001 ∷ []) ∷ [] ∷ (pos 0 ∷ pos 6144001 ∷ []) ∷ [])
    ≡ false ∷ true ∷ true ∷ false ∷ true ∷ false ∷ []
unfolding within are_offsets
offsets_are = refl

-- the sum of a list of any length: nothing, and then each offset once
pub sum_none : sum_z [] ≡ pos 0
unfolding sum_z
sum_none = refl

pub sum_more : (x : ℤ) (xs : List ℤ) → sum_z (x ∷ xs) ≡ x +ℤ sum_z xs
unfolding sum_z
sum_more x xs = refl

-- all of them are offsets, in a list of any length
pub offsets_more : (x : ℤ) (xs : List ℤ) → are_offsets (x ∷ xs) ≡ both (are_offsets (x ∷ [])) (are_offsets xs)
unfolding are_offsets
offsets_more x xs = go (is_offset x)
  where
    go : (t : Bool) → both t (are_offsets xs) ≡ both (both t true) (are_offsets xs)
    go true = refl
    go false = refl

pub odd_375 : OddMultiple (pos 375)
odd_375 = (0, refl)

pub odd_1125 : OddMultiple (pos 1125)
odd_1125 = (1, refl)

pub odd_below : OddMultiple (negsuc 374)
odd_below = (0, refl)

pub not_odd_0 : OddMultiple (pos 0) → ⊥
not_odd_0 (n, e) = omega (arith, e)

pub not_odd_750 : OddMultiple (pos 750) → ⊥
not_odd_750 (n, e) = omega (arith, e)

pub not_odd_below : OddMultiple (negsuc 749) → ⊥
not_odd_below (n, e) = omega (arith, e)

pub not_odd_374 : OddMultiple (pos 374) → ⊥
not_odd_374 (n, e) = omega (arith, e)

-- ---- the nearest step of 750 feet: of 1125 it is 2 and neither 1 nor 3, of -1125 it is -2, of 1124 it is 1

pub nearest_1125 : Nearest 750 (pos 1125) (pos 2)
unfolding near
nearest_1125 = near_nearest (pos 1125)

pub nearest_below : Nearest 750 (negsuc 1124) (negsuc 1)
unfolding near
nearest_below = near_nearest (negsuc 1124)

pub nearest_1124 : Nearest 750 (pos 1124) (pos 1)
unfolding near
nearest_1124 = near_nearest (pos 1124)

pub not_toward_zero : Nearest 750 (pos 1125) (pos 1) → ⊥
unfolding dist
not_toward_zero p = omega (arith, p.away (pos 2) refl)

pub not_below_toward_zero : Nearest 750 (negsuc 1124) (negsuc 0) → ⊥
unfolding dist
not_below_toward_zero p = omega (arith, p.away (negsuc 1) refl)

pub not_further : Nearest 750 (pos 1125) (pos 3) → ⊥
unfolding dist
not_further p = omega (arith, p.close (pos 2))

-- ---- a message that is shifted (02, item 6)

abbrev tracked : ℕ → ℕ → ℤ → ℤ → Message
tracked n q x y = m.S4 (track n q x y)

-- a track at 1 by 375 feet is at 2, and not at 1; with another number or quality, or as an S.8, it is no shift of the first; nor is S.0
-- one of Blank
pub shifts_to_2 : Shifts (tracked 1 1 (pos 1) (pos 0)) (pos 375 ∷ []) [] (tracked 1 1 (pos 2) (pos 0))
unfolding sum_z near
shifts_to_2 = (refl, λ e. near_nearest (pos 1125), λ e. near_nearest (pos 0), λ e. absurd (clash refl e))

pub not_shifted : Shifts (tracked 1 1 (pos 1) (pos 0)) (pos 375 ∷ []) [] (tracked 1 1 (pos 1) (pos 0)) → ⊥
unfolding sum_z
not_shifted s = not_toward_zero (s.1 refl)

pub not_another_number : Shifts (tracked 1 1 (pos 0) (pos 0)) [] [] (tracked 2 1 (pos 0) (pos 0)) → ⊥
unfolding message_word
not_another_number s = omega (arith, ap message_word s.0)

pub not_another_quality : Shifts (tracked 1 1 (pos 0) (pos 0)) [] [] (tracked 1 2 (pos 0) (pos 0)) → ⊥
unfolding message_word
not_another_quality s = omega (arith, ap message_word s.0)

pub not_another_kind : Shifts (tracked 1 1 (pos 0) (pos 0)) [] [] (m.S8 (track 1 1 (pos 0) (pos 0))) → ⊥
unfolding message_word
not_another_kind s = omega (arith, ap message_word s.0)

pub not_another_blank : Shifts m.Blank [] [] m.S0 → ⊥
unfolding message_word
not_another_blank s = omega (arith, ap message_word s.0)

-- 4095 by 374 feet is in range, by 375 it is not, on either axis; nor is -4096 by -375; a Blank has nothing to be out of range
pub in_range : InRange (tracked 0 0 (pos 4095) (pos 4095)) (pos 374 ∷ []) (pos 374 ∷ [])
unfolding within sum_z near
in_range e = (λ n p. ap is_step (nearest_is _ n p), λ n p. ap is_step (nearest_is _ n p))

pub x_out_of_range : InRange (tracked 0 0 (pos 4095) (pos 0)) (pos 375 ∷ []) [] → ⊥
unfolding within sum_z near
x_out_of_range r = clash ((r refl).0 (pos 4096) (near_nearest (pos 3071625))) refl

pub y_out_of_range : InRange (tracked 0 0 (pos 0) (pos 4095)) [] (pos 375 ∷ []) → ⊥
unfolding within sum_z near
y_out_of_range r = clash ((r refl).1 (pos 4096) (near_nearest (pos 3071625))) refl

pub below_range : InRange (tracked 0 0 (negsuc 4095) (pos 0)) (negsuc 374 ∷ []) [] → ⊥
unfolding within sum_z near
below_range r = clash ((r refl).0 (negsuc 4096) (near_nearest (negsuc 3072374))) refl

pub blank_in_range : InRange m.Blank (pos 375 ∷ []) []
blank_in_range e = absurd (clash e refl)

-- ---- where a trouble begins (02, item 4): an S.3 with spare bit 8 and request/reply 1

abbrev troubled_word : ℕ
troubled_word = 19 + 2 ^ 7 + 2 ^ 20

abbrev BeginsHere : Cause → ℕ → Type 0
BeginsHere = Begins 6 iff_layout troubled_word

pub spare_begins : BeginsHere Spare 8
spare_begins = inl (1, refl, refl, λ e. omega (arith, e))

pub code_begins : BeginsHere Unused 21
code_begins = inr (inr (inl (refl, refl, refl)))

pub none_begins : (c : Cause) → BeginsHere c 9 → ⊥
none_begins c =
    ⊎_elim (λ p. let two : p.0 ≡ 2 = omega (arith, p.2) in p.3 (ap (λ (i : ℕ). 2 / 2 ^ i % 2) two ∙ sym (ap (λ (i : ℕ). 0 / 2 ^ i % 2) two)))
    (⊎_elim (λ p. p)
    (⊎_elim (λ p. omega (arith, p.1))
    (⊎_elim (λ p. p)
    (⊎_elim (λ p. p)
    (⊎_elim (λ p. p)
    (⊎_elim (λ p. p)
    (⊎_elim (λ p. p)
    (⊎_elim (λ p. omega (arith, p.2)) (⊎_elim (λ p. p) (⊎_elim (λ p. omega (arith, p.2)) (⊎_elim (λ p. p) (λ p. omega (arith, p.1)))))))))))))

-- the spare bit is told, and not the code, nor nothing
pub spare_first : IsFirst BeginsHere (wrong Spare 8)
unfolding agreeing
spare_first = content_first k.S3 troubled_word

pub code_not_first : IsFirst BeginsHere (wrong Unused 21) → ⊥
code_not_first f = omega (arith, f.1 Spare 8 spare_begins)

pub something_first : IsFirst BeginsHere no_trouble → ⊥
something_first f = f Spare 8 spare_begins

-- ---- digits left in absent modes (02, item 2)

pub no_digit_left : Clear image_iff_c
unfolding num_of sum_of tab octets_of image_of zeroed_image
no_digit_left = own_clear image_iff_c refl

pub digits_left : Clear image_digits_c → ⊥
unfolding num_of
digits_left c = omega (arith, c.1 9 (lit≤ tt) (lit≤ tt) refl)

-- ---- octets: 0 to 255

pub octets_255 : AreOctets (255 ∷ [])
octets_255 zero = lit< tt
octets_255 (suc n) = lit< tt

pub not_octets_256 : AreOctets (256 ∷ []) → ⊥
not_octets_256 a = omega (arith, a 0)
