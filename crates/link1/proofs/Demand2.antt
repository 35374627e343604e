-- DEMAND 2: opening and closing follow ATDLP-5.01 and the pair table. An accepted frame closes again to the same 128 bits, as 02, item 2,
-- amends it: with absent modes' codes zeroed and the check bits worked anew; a legal pair opens again unchanged. A search gives the first
-- good frame's position. A shift gives the nearest step to the exact sum in feet. Over the calls' own contracts (Calls.antt), each law with
-- its whole statement. Assumes nothing.
use mathlib.Core.Path.{◌≡◌, refl, sym, ap, subst, ◌∙◌}
use mathlib.Core.Bool.{true, false}
use mathlib.Core.List.{List, [], ◌∷◌}
use mathlib.Core.Logic.{◌↔◌}
use Prim.Native.Nat.{ℕ, ◌+◌, ◌-◌, ◌*◌, ◌%◌, ◌≤◌, ◌<◌}
use native.Mathlib.Omega.{arith}
use borrow.Author.Tests.{eqb-true, eq-eqb, ltb-true, lt-ltb, leb-true, le-leb}
use lib.Dec.{leb}
use lib.IntN.{ℤ, pos, ◌+ℤ◌, ◌*ℤ◌}
use lib.ListN.{length, get_or}
use lib.Signed.{le_z}
use Rattle.std.specs.Prelude.{Result, Ok, Err}
use Rattle.bits.specs.Tests.{both}
use Rattle.bits.specs.Numbers.{bit, sum_of}
use Rattle.bits.specs.Octets.{AreOctets, bit_at}
use Rattle.layout.specs.Begins.{Begins, Misfits, IsFirst}
use Rattle.layout.specs.declared.Cause.{Cause}
use Rattle.layout.specs.Trouble.{nothing}
use Rattle.refusal.specs.Refusals.{numbered}
use Rattle.refusal.specs.declared.Refusal.{Refusal}
use Rattle.frame.specs.Frame.{good_frame, frame_at}
use Rattle.words.specs.Words.{place_of}
use Rattle.sieve.specs.Capture.{good_at}
use Rattle.units.specs.Nearest.{Nearest}
use Rattle.units.specs.declared.AltSteps.{AltSteps}
use Rattle.units.specs.Offsets.{are_offsets, sum_z}
use Rattle.units.specs.Steps.{is_step}
use Rattle.kind.specs.Layouts.{all_kinds, label_of, layout_of}
use Rattle.kind.specs.declared.Kind.{Kind}
use Rattle.kind.specs.declared.Kind.TheVariants.{Blank, S0, S3, S4, S4Plus, S5, S6, S8, S8Plus, S9}
use Rattle.message.specs.Messages.{kind_of, parts_of}
use Rattle.message.specs.Codec.{message_trouble}
use Rattle.message.specs.declared.Message.{Message}
use Rattle.track.specs.TrackText.{is_text, text_checks, text_refusal, tracked_of}
use Rattle.pair.specs.Pairs.{is_in, pair_of}
use Rattle.pair.specs.Opening.{Opened, is_labelled, word_kind, word_trouble, word_message, first_word, second_word, open_of}
use Rattle.pair.specs.Closing.{close_checks, close_refusal}
use Rattle.pair.specs.ZeroedImage.{zeroed_image, Clear}
use Rattle.position.specs.Positions.{position_of, is_somewhere, x_of, y_of, placed_at}
use Rattle.relay.specs.Relay.{first_message, second_message, relay_image}
use Rattle.bits.proofs.TestLaws.{both_true}
use Rattle.refusal.proofs.CheckLaws.{success_exactly}
use Rattle.refusal.proofs.OkOr.{same_ok}
use Rattle.frame.proofs.FrameLaws as frames
use Rattle.capture.proofs.SearchLaws as search
use Rattle.units.proofs.Nearest as nearest
use Rattle.kind.proofs.LabelLaws as labels
use Rattle.message.proofs.FirstTrouble as inside
use Rattle.track.proofs.TextLaws as texts
use Rattle.pair.proofs.KindsRead as kinds
use Rattle.pair.proofs.PairRules as rules
use Rattle.pair.proofs.Demand2 as pairs
use Rattle.pair.proofs.ZeroedLaws as zeroed
use Rattle.relay.proofs.Theorems as relays
use Rattle.link1.proofs.Calls.{Judges, judged, Opens, opened, Closes, closed, Relays, relayed, Searches, searched, Climbs, climbed, Names, named, Spells, spelled, Numbers, numbered_as}

-- ---- a good frame (001, Annex A, Appendix 3, paragraphs 2 and 3)

-- bits 1 to 8 are zeros; bits 9, 17, .. 121 are ones, and so is bit 128; check bit j, from 1 to 6, makes odd the number of ones among bit j
-- of the fourteen data groups and itself
pub good_frame_lem : (b : ℕ → ℕ)
    → (good_frame b ≡ true)
    ↔ (((n : ℕ) → 1 ≤ n → n ≤ 8 → b n ≡ 0)
    × ((g : ℕ) → g ≤ 14 → b (8 * g + 9) ≡ 1)
    × (b 128 ≡ 1)
    × ((j : ℕ) → 1 ≤ j → j ≤ 6 → sum_of (λ g. b (8 * g + 9 + j)) 15 % 2 ≡ 1))
good_frame_lem = frames.good_exactly

-- 'bit 7 of a group has no check bit': bits 16, 24, .. 120 may be anything
pub seventh_free : (b c : ℕ → ℕ) → ((n : ℕ) → 1 ≤ n → n ≤ 128 → (n % 8 ≡ 0 → 16 ≤ n → n ≤ 120 → ⊥) → b n ≡ c n) → good_frame b ≡ good_frame c
seventh_free = frames.seventh_free

-- 'groups 1 to 7 carry the first message's bits 1 to 49 in rising order, groups 8 to 14 the second's': message bit 7 (g - 1) + j of message
-- k is bit j of data group 7 (k - 1) + g
pub groups_carry : (k g j : ℕ) → 1 ≤ k → k ≤ 2 → 1 ≤ g → g ≤ 7 → 1 ≤ j → j ≤ 7 → place_of k (7 * (g - 1) + j) ≡ 8 * (7 * (k - 1) + g) + 1 + j
groups_carry k g j a b c d e f = omega arith

-- an image is accepted exactly if it has sixteen octets that are a good frame
pub verdict_exactly : {image : List ℕ} {r : Refusal} → Judges image r → (r ≡ numbered 0) ↔ ((length image ≡ 16) × (good_frame (bit_at image) ≡ true))
verdict_exactly {image} j = (
  λ e. let v = sym (judged j) ∙ e in (frames.verdict_size image (ap (λ (r : Refusal). r.number) v), frames.verdict_frame image v),
  λ w. judged j ∙ frames.verdict_by_lem image w.0 w.1,
)

-- ---- opening and closing

-- the label is bits 1 to 6 of a word: it is known exactly if it is a kind's, and names that kind, whatever stands above it
pub label_known : (word : ℕ) → (is_labelled word ≡ true) ↔ ((k : Kind) × (word % 64 ≡ label_of k))
label_known = kinds.labelled_exactly

pub label_names : (word : ℕ) (k : Kind) → word % 64 ≡ label_of k → word_kind word ≡ k
label_names = kinds.kind_exactly

-- an image opens exactly if it is a good frame, both labels are known, the pair is in the table and nothing is wrong inside
pub opens_exactly : {image : List ℕ} {o : Opened} → Opens image o
    → ((first : Message) × (second : Message) × (o ≡ Ok (first, second)))
    ↔ ((length image ≡ 16)
    × (good_frame (bit_at image) ≡ true)
    × (is_labelled (first_word image) ≡ true)
    × (is_labelled (second_word image) ≡ true)
    × (pair_of (word_kind (first_word image)) (word_kind (second_word image)) ≡ true)
    × (word_trouble (first_word image) ≡ nothing)
    × (word_trouble (second_word image) ≡ nothing))
opens_exactly {image} x = (
  λ p.
      let o = (pairs.opens_exactly image).0 (pairs.opened_as p.0 p.1 image (sym (opened x) ∙ p.2)) in
      (o.size, o.good, o.known_1, o.known_2, o.paired, o.fine_1, o.fine_2),
  λ w. (
    word_message (first_word image),
    word_message (second_word image),
    opened x
        ∙ (pairs.opens_exactly image).1 (record { size = w.0; good = w.1; known_1 = w.2; known_2 = w.3; paired = w.4; fine_1 = w.5; fine_2 = w.6 }),
  ),
)

-- nothing is wrong inside a word, or a message, exactly if no trouble begins in any of its fields (`Begins`, `Misfits`: of a word, and of
-- the values of a message; crates/bits/specs/Begins.antt)
pub word_fine : (word : ℕ) → (word_trouble word ≡ nothing) ↔ ((c : Cause) (b : ℕ) → Begins 6 (layout_of (word_kind word)) word c b → ⊥)
word_fine word = (
  λ e. subst (IsFirst (Begins 6 (layout_of (word_kind word)) word)) e (inside.content_first (word_kind word) word),
  λ none. sym (inside.content_only (word_kind word) word nothing none),
)

pub message_fine : (m : Message) → (message_trouble m ≡ nothing) ↔ ((c : Cause) (b : ℕ) → Misfits 6 (layout_of (kind_of m)) (parts_of m) c b → ⊥)
message_fine m = (
  λ e. subst (IsFirst (Misfits 6 (layout_of (kind_of m)) (parts_of m))) e (inside.message_first m),
  λ none. sym (inside.message_only m nothing none),
)

-- a pair closes exactly if the buffer has sixteen octets, the pair is in the table and every value fits: a legal pair
pub closes_exactly : {first second : Message} {buffer after : List ℕ} {r : Refusal} → Closes first second buffer r after
    → (r ≡ numbered 0)
    ↔ ((length buffer ≡ 16) × (pair_of (kind_of first) (kind_of second) ≡ true) × (message_trouble first ≡ nothing) × (message_trouble second ≡ nothing))
unfolding close_refusal
closes_exactly {first} {second} {buffer} c = (
  λ e. let p = (success_exactly (close_checks first second buffer) refl).0 (sym (closed c).0 ∙ e) in (eqb-true _ _ p.0, p.1.0, p.1.1.0, p.1.1.1.0),
  λ w. (closed c).0 ∙ (success_exactly (close_checks first second buffer) refl).1 (eq-eqb _ _ w.0, (w.1, (w.2, (w.3, tt)))),
)

-- ---- there and back

-- an accepted frame closes to its zeroed image: the same bits with absent modes' codes zeroed and the check bits worked anew
pub accepted_closes : {image buffer after : List ℕ} {first second : Message} {r : Refusal} → Opens image (Ok (first, second)) → Closes first second buffer r after
    → length buffer ≡ 16 → (r ≡ numbered 0) × (after ≡ zeroed_image image)
accepted_closes {image} {buffer} {after} {first} {second} o c sixteen =
    let p = pairs.opened_closes first second image (sym (opened o)) buffer sixteen in ((closed c).0 ∙ p.0, (closed c).1 ∙ p.1)

-- opening and closing that again changes nothing
pub zeroed_opens : {image : List ℕ} {first second : Message} {o : Opened} → Opens image (Ok (first, second)) → Opens (zeroed_image image) o → o ≡ Ok (first, second)
zeroed_opens {image} {first} {second} o p = opened p ∙ pairs.zeroed_opens first second image (sym (opened o))

pub zeroed_closes : (image : List ℕ) {buffer after : List ℕ} {first second : Message} {r : Refusal} → Opens (zeroed_image image) (Ok (first, second)) → Closes first second buffer r after
    → length buffer ≡ 16 → (r ≡ numbered 0) × (after ≡ zeroed_image image)
zeroed_closes image {buffer} {after} {first} {second} o c sixteen =
    let p = pairs.zeroed_closes first second image (sym (opened o)) buffer sixteen in ((closed c).0 ∙ p.0, (closed c).1 ∙ p.1)

pub zeroed_once : (image : List ℕ) → zeroed_image (zeroed_image image) ≡ zeroed_image image
zeroed_once = zeroed.zeroed_once

-- an accepted frame closes to the same 128 bits exactly if no digit is left in the code of an absent mode
pub same_bits : {image buffer after : List ℕ} {first second : Message} {r : Refusal} → AreOctets image → Opens image (Ok (first, second)) → Closes first second buffer r after
    → length buffer ≡ 16 → (after ≡ image) ↔ Clear image
same_bits {image} {buffer} {after} {first} {second} octets o c sixteen = (
  λ e. zeroed.own_clear image (sym (accepted_closes o c sixteen).1 ∙ e),
  λ clear. (accepted_closes o c sixteen).1 ∙ pairs.clear_zeroed first second image (sym (opened o)) octets clear,
)

-- a legal pair opens again unchanged
pub closed_opens : {buffer after : List ℕ} {first second : Message} {o : Opened} → Closes first second buffer (numbered 0) after → Opens after o → o ≡ Ok (first, second)
closed_opens {buffer} {after} {first} {second} c o = opened o ∙ ap open_of (closed c).1 ∙ pairs.closed_opens first second buffer (sym (closed c).0)

-- ---- which pairs may share a frame (01; S.9: 02, item 1)

-- 7 is told exactly for pairs that are not in the table: on opening where the image is a good frame and both labels are known, on closing
-- where the buffer has sixteen octets
pub pair_refused : {image : List ℕ} {o : Opened} → Opens image o → length image ≡ 16 → good_frame (bit_at image) ≡ true → is_labelled (first_word image) ≡ true → is_labelled (second_word image) ≡ true
    → (o ≡ Err (numbered 7)) ↔ (pair_of (word_kind (first_word image)) (word_kind (second_word image)) ≡ false)
pair_refused {image} x size good one two =
    (λ e. (pairs.seven_opened image size good one two).0 (sym (opened x) ∙ e), λ e. opened x ∙ (pairs.seven_opened image size good one two).1 e)

pub pair_unclosed : {first second : Message} {buffer after : List ℕ} {r : Refusal} → Closes first second buffer r after → length buffer ≡ 16
    → (r ≡ numbered 7) ↔ (pair_of (kind_of first) (kind_of second) ≡ false)
pair_unclosed {first} {second} {buffer} c sixteen =
    (λ e. (pairs.seven_closed first second buffer sixteen).0 (sym (closed c).0 ∙ e), λ e. (closed c).0 ∙ (pairs.seven_closed first second buffer sixteen).1 e)

-- S.0 is followed by S.0 only, and follows nothing else
pub test_pairs : (first second : Kind)
    → (is_in first (S0 ∷ []) ≡ true → pair_of first second ≡ is_in second (S0 ∷ [])) × (is_in second (S0 ∷ []) ≡ true → pair_of first second ≡ is_in first (S0 ∷ []))
test_pairs first second = (
  rules.followed_means (S0 ∷ []) (S0 ∷ []) first second (pair_of first second) (rules.rule_at first second 0),
  rules.follows_means (S0 ∷ []) (S0 ∷ []) first second (pair_of first second) (rules.rule_at first second 1),
)

-- S.4+ and S.8+ are followed by S.3 or S.5, and are never second
pub plus_pairs : (first second : Kind)
    → (is_in first (S4Plus ∷ S8Plus ∷ []) ≡ true → pair_of first second ≡ is_in second (S3 ∷ S5 ∷ [])) × (is_in second (S4Plus ∷ S8Plus ∷ []) ≡ true → pair_of first second ≡ false)
plus_pairs first second = (
  rules.followed_means (S4Plus ∷ S8Plus ∷ []) (S3 ∷ S5 ∷ []) first second (pair_of first second) (rules.rule_at first second 2),
  rules.follows_means (S4Plus ∷ S8Plus ∷ []) [] first second (pair_of first second) (rules.rule_at first second 3),
)

-- S.4, S.6 and S.8 are followed by S.4, S.6, S.8 or Blank
pub track_pairs : (first second : Kind) → is_in first (S4 ∷ S6 ∷ S8 ∷ []) ≡ true → pair_of first second ≡ is_in second (S4 ∷ S6 ∷ S8 ∷ Blank ∷ [])
track_pairs first second = rules.followed_means (S4 ∷ S6 ∷ S8 ∷ []) (S4 ∷ S6 ∷ S8 ∷ Blank ∷ []) first second (pair_of first second) (rules.rule_at first second 4)

-- Blank, S.3 and S.5 are never first
pub never_first : (first second : Kind) → is_in first (Blank ∷ S3 ∷ S5 ∷ []) ≡ true → pair_of first second ≡ false
never_first first second = rules.followed_means (Blank ∷ S3 ∷ S5 ∷ []) [] first second (pair_of first second) (rules.rule_at first second 5)

-- S.9 may stand only as S.9 followed by S.9
pub corner_pairs : (first second : Kind)
    → (is_in first (S9 ∷ []) ≡ true → pair_of first second ≡ is_in second (S9 ∷ [])) × (is_in second (S9 ∷ []) ≡ true → pair_of first second ≡ is_in first (S9 ∷ []))
corner_pairs first second = (
  rules.followed_means (S9 ∷ []) (S9 ∷ []) first second (pair_of first second) (rules.rule_at first second 6),
  rules.follows_means (S9 ∷ []) (S9 ∷ []) first second (pair_of first second) (rules.rule_at first second 7),
)

-- that is 18 pairs of 100
pub pairs_counted : sum_of (λ row. sum_of (λ column. bit (pair_of (get_or all_kinds row Blank) (get_or all_kinds column Blank))) 10) 10 ≡ 18
unfolding pair_of sum_of
pairs_counted = refl

-- ---- the search

-- a good frame lies whole at a position: all its 128 bits lie in the capture, whose first bit has position 0
pub lies_whole : (capture : List ℕ) (p : ℕ) → (good_at capture p ≡ true) ↔ ((p + 128 ≤ 8 * length capture) × (good_frame (λ n. bit_at capture (p + n)) ≡ true))
unfolding good_at
lies_whole capture p = (
  λ e. let w = both_true {a = leb (p + 128) (8 * length capture)} {b = good_frame (frame_at capture p)} e in (leb-true _ _ w.0, w.1),
  λ w i. both (le-leb _ _ w.0 i) (w.1 i),
)

-- the answer is the least position from the start on at which a good frame lies whole
pub search_finds : {capture : List ℕ} {start : ℕ} {f : Result ℕ Refusal} → Searches capture start f → (p : ℕ)
    → (f ≡ Ok p)
    ↔ ((length capture ≤ 65536)
    × (start ≤ 8 * length capture)
    × ((start ≤ p) × (good_at capture p ≡ true) × ((q : ℕ) → start ≤ q → q < p → good_at capture q ≡ false)))
search_finds {capture} {start} s p = (λ e. (search.found_exactly capture start p).0 (sym (searched s) ∙ e), λ w. searched s ∙ (search.found_exactly capture start p).1 w)

-- 2 for a capture over 65,536 octets
pub search_too_long : {capture : List ℕ} {start : ℕ} {f : Result ℕ Refusal} → Searches capture start f → (f ≡ Err (numbered 2)) ↔ (65536 < length capture)
search_too_long {capture} {start} s = (λ e. (search.long_exactly capture start).0 (sym (searched s) ∙ e), λ w. searched s ∙ (search.long_exactly capture start).1 w)

-- 9 for a start past the capture's end
pub search_past_end : {capture : List ℕ} {start : ℕ} {f : Result ℕ Refusal} → Searches capture start f
    → (f ≡ Err (numbered 9)) ↔ ((length capture ≤ 65536) × (8 * length capture < start))
search_past_end {capture} {start} s = (λ e. (search.past_exactly capture start).0 (sym (searched s) ∙ e), λ w. searched s ∙ (search.past_exactly capture start).1 w)

-- 10 where no good frame lies at or after the start
pub search_none : {capture : List ℕ} {start : ℕ} {f : Result ℕ Refusal} → Searches capture start f
    → (f ≡ Err (numbered 10)) ↔ ((length capture ≤ 65536) × (start ≤ 8 * length capture) × ((p : ℕ) → start ≤ p → good_at capture p ≡ false))
search_none {capture} {start} s = (λ e. (search.none_exactly capture start).0 (sym (searched s) ∙ e), λ w. searched s ∙ (search.none_exactly capture start).1 w)

-- ---- the shift, which is the relay's (02, item 6)

-- where a message has a position, the step nearest to 750 times its old X, or Y, plus the sum of the list lies in -4096 to 4095
abbrev pub InRange : Message → List ℤ → List ℤ → Type 0
InRange m xs ys =
    is_somewhere (position_of m) ≡ true
    → ((n : ℤ) → Nearest 750 (pos 750 *ℤ x_of (position_of m) +ℤ sum_z xs) n → is_step n ≡ true)
    × ((n : ℤ) → Nearest 750 (pos 750 *ℤ y_of (position_of m) +ℤ sum_z ys) n → is_step n ≡ true)

-- a relay is taken exactly if the image opens, the buffer has sixteen octets, each list has at most eight offsets, each from -6,144,000 to
-- 6,144,000, and every nearest step is in range
pub relay_exactly : {image : List ℕ} {xs ys : List ℤ} {buffer after : List ℕ} {r : Refusal} → Relays image xs ys buffer r after
    → (r ≡ numbered 0)
    ↔ ((open_of image ≡ Ok (first_message image, second_message image))
    × (length buffer ≡ 16)
    × (length xs ≤ 8)
    × (length ys ≤ 8)
    × (are_offsets xs ≡ true)
    × (are_offsets ys ≡ true)
    × InRange (first_message image) xs ys
    × InRange (second_message image) xs ys)
relay_exactly {image} {xs} {ys} {buffer} x =
    (λ e. (relays.relay_exactly image xs ys buffer).0 (sym (relayed x).0 ∙ e), λ w. (relayed x).0 ∙ (relays.relay_exactly image xs ys buffer).1 w)

-- a message m becomes n: each axis of its position is nearest to the exact sum in feet, a half away from zero, and all else is as it was;
-- one without a position passes through
abbrev pub Shifts : Message → List ℤ → List ℤ → Message → Type 0
Shifts m xs ys n =
    (n ≡ placed_at m (x_of (position_of n)) (y_of (position_of n)))
    × (is_somewhere (position_of m) ≡ true → Nearest 750 (pos 750 *ℤ x_of (position_of m) +ℤ sum_z xs) (x_of (position_of n)))
    × (is_somewhere (position_of m) ≡ true → Nearest 750 (pos 750 *ℤ y_of (position_of m) +ℤ sum_z ys) (y_of (position_of n)))
    × (is_somewhere (position_of m) ≡ false → n ≡ m)

-- what is written opens as the pair that came, both messages so shifted
pub relay_nearest : {image : List ℕ} {xs ys : List ℤ} {buffer after : List ℕ} {first second : Message} {o : Opened}
    → Opens image (Ok (first, second)) → Relays image xs ys buffer (numbered 0) after → Opens after o
    → (m : Message) × (n : Message) × (o ≡ Ok (m, n)) × Shifts first xs ys m × Shifts second xs ys n
relay_nearest {image} {xs} {ys} {buffer} {after} {first} {second} {o} came x goes =
    let c = relays.relay_nearest image xs ys buffer (sym (relayed x).0) in
    let is : relay_image image xs ys buffer ≡ after = sym (relayed x).1 in
    let pair : Ok (first_message image, second_message image) ≡ Ok (first, second) = sym c.came ∙ sym (opened came) in
    let same = same_ok pair in
    let one = ap (λ (p : Message × Message). p.0) same in
    let two = ap (λ (p : Message × Message). p.1) same in
    let a = c.one in
    let b = c.two in (
      first_message (relay_image image xs ys buffer),
      second_message (relay_image image xs ys buffer),
      opened goes ∙ ap open_of (sym is) ∙ c.goes,
      subst (λ (m : Message). Shifts m xs ys (first_message (relay_image image xs ys buffer))) one (a.else, a.x, a.y, a.still),
      subst (λ (m : Message). Shifts m xs ys (second_message (relay_image image xs ys buffer))) two (b.else, b.x, b.y, b.still),
    )

-- there is only one nearest step
pub nearest_only : (k : ℕ) (f n m : ℤ) → 0 < k → Nearest k f n → Nearest k f m → n ≡ m
nearest_only = nearest.nearest_only

-- ---- altitude

-- 375 feet and below give 1
pub altitude_low : {feet : ℤ} {h : Result AltSteps Refusal} → Climbs feet h → le_z feet (pos 375) ≡ true → h ≡ Ok (record { 0 = 1 })
altitude_low {feet} c p = climbed c ∙ nearest.height_low feet p

-- otherwise the nearest multiple of 375, which is given exactly if it is not over 511; a result over 511 is refused 9
pub altitude_near : {feet : ℤ} {h : Result AltSteps Refusal} → Climbs feet h → le_z feet (pos 375) ≡ false → (n : ℕ) → Nearest 375 feet (pos n)
    → ((h ≡ Ok (record { 0 = n })) ↔ (n ≤ 511)) × ((h ≡ Err (numbered 9)) ↔ (511 < n))
altitude_near {feet} c p n near = (
  (λ e. (nearest.height_exactly feet p n near).0 (sym (climbed c) ∙ e), λ w. climbed c ∙ (nearest.height_exactly feet p n near).1 w),
  (λ e. (nearest.too_high_exactly feet p n near).0 (sym (climbed c) ∙ e), λ w. climbed c ∙ (nearest.too_high_exactly feet p n near).1 w),
)

-- the conversion never gives 0, and nothing over 511
pub altitude_range : {feet : ℤ} {n : ℕ} → Climbs feet (Ok (record { 0 = n })) → (1 ≤ n) × (n ≤ 511)
altitude_range {feet} {n} c = nearest.height_range feet (record { 0 = n }) (sym (climbed c))

-- ---- labels

-- a label names a kind exactly if it is that kind's, and is refused 6 exactly if it is no kind's
pub label_named : {label : ℕ} {n : Result Kind Refusal} → Names label n → (k : Kind) → (n ≡ Ok k) ↔ (label ≡ label_of k)
label_named {label} x k = (λ e. (labels.names_exactly label k).0 (sym (named x) ∙ e), λ w. named x ∙ (labels.names_exactly label k).1 w)

pub label_unknown : {label : ℕ} {n : Result Kind Refusal} → Names label n → (n ≡ Err (numbered 6)) ↔ ((k : Kind) → label ≡ label_of k → ⊥)
label_unknown {label} x = (λ e. (labels.unknown_exactly label).0 (sym (named x) ∙ e), λ w. named x ∙ (labels.unknown_exactly label).1 w)

-- ---- track number text

-- a number is written exactly if the buffer has five octets and the number is at most 32767
pub text_exactly : {number : ℕ} {buffer after : List ℕ} {r : Refusal} → Spells number buffer r after → (r ≡ numbered 0) ↔ ((length buffer ≡ 5) × (number < 32768))
unfolding text_refusal
text_exactly {number} {buffer} s = (
  λ e. let p = (success_exactly (text_checks number buffer) refl).0 (sym (spelled s).0 ∙ e) in (eqb-true _ _ p.0, ltb-true _ _ p.1.0),
  λ w. (spelled s).0 ∙ (success_exactly (text_checks number buffer) refl).1 (eq-eqb _ _ w.0, (lt-ltb _ _ w.1, tt)),
)

-- a text is read exactly if it has five characters, two letters of A E G H J K L M and three digits 0 to 7 (`is_text`)
pub number_exactly : {text : List ℕ} {t : Result ℕ Refusal} → Numbers text t → ((n : ℕ) × (t ≡ Ok n)) ↔ ((length text ≡ 5) × (is_text text ≡ true))
number_exactly {text} x = (
  λ w. (texts.reads_exactly text).0 (w.0, sym (numbered_as x) ∙ w.1),
  λ w. let p = (texts.reads_exactly text).1 w in (p.0, numbered_as x ∙ p.1),
)

-- number to text to number, and text to number to text
pub text_reads : {number : ℕ} {buffer after : List ℕ} {t : Result ℕ Refusal} → Spells number buffer (numbered 0) after → Numbers after t → t ≡ Ok number
text_reads {number} {buffer} s x = numbered_as x ∙ ap tracked_of (spelled s).1 ∙ texts.written_reads number buffer (sym (spelled s).0)

pub number_writes : {text buffer after : List ℕ} {number : ℕ} {r : Refusal} → Numbers text (Ok number) → Spells number buffer r after → length buffer ≡ 5
    → (r ≡ numbered 0) × (after ≡ text)
number_writes {text} {buffer} {after} {number} x s five =
    let p = texts.read_writes text buffer number (sym (numbered_as x)) five in ((spelled s).0 ∙ p.0, (spelled s).1 ∙ p.1)
