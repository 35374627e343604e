-- THE ORDERS OF CHECKS (01, 'Orders of checks'; 02, items 4 and 6), each call's on one line: number and place of each check, for every
-- input. `n at p` is number n at place p, `12 to 14 at 1` one of these numbers at place 1. Of each call, over its own contract: its checks
-- stand in this order, the first that is not passed is told, and nothing but success or one of these is ever told. Assumes nothing.
use mathlib.Core.Path.{◌≡◌, refl, ap, ◌∙◌}
use mathlib.Core.Bool.{Bool, true, false, not}
use mathlib.Core.List.{List, [], ◌∷◌}
use Prim.Native.Nat.{ℕ}
use lib.IntN.{ℤ}
use Rattle.std.specs.Prelude.{Result}
use Rattle.bits.specs.Tests.{pick}
use Rattle.refusal.specs.Refusals.{bad_level}
use Rattle.refusal.specs.Checks.{Check, check, first_refusal, refusal_in}
use Rattle.refusal.specs.Table.{Step, ◌at◌, ◌to◌at◌, in_order, among}
use Rattle.refusal.specs.declared.Refusal.{Refusal}
use Rattle.frame.specs.Frame.{image_checks, verdict_of}
use Rattle.line.specs.Levels.{refused}
use Rattle.line.specs.Machine.{accepted, answer_of, refused_by}
use Rattle.line.specs.Sending.{send_checks, send_refusal}
use Rattle.line.specs.declared.Receiver.{Receiver}
use Rattle.line.specs.declared.Heard.{Heard}
use Rattle.capture.specs.Search as searching
use Rattle.units.specs.Heights as heights
use Rattle.units.specs.declared.AltSteps.{AltSteps}
use Rattle.kind.specs.Labels as labels
use Rattle.kind.specs.declared.Kind.{Kind}
use Rattle.message.specs.declared.Message.{Message}
use Rattle.track.specs.TrackText as texts
use Rattle.pair.specs.Opening as opening
use Rattle.pair.specs.Opening.{Opened}
use Rattle.pair.specs.Closing.{close_checks, close_refusal}
use Rattle.relay.specs.Relay.{relay_checks, relay_refusal}
use Rattle.refusal.proofs.CheckLaws.{AllNumbered, answer_tells, told_among}
use Rattle.pair.proofs.FirstTrouble.{open_numbers, close_numbers}
use Rattle.relay.proofs.Theorems.{relay_numbers}
use Rattle.link1.proofs.Calls.{Judges, judged, Opens, opened, Closes, closed, Relays, relayed, Steps, stepped, Sends, sent, Searches, searched, Climbs, climbed, Names, named, Spells, spelled, Numbers, numbered_as}

-- the checks stand in the order, where what is wrong inside a message has the numbers lo to hi; the refusal is that of the first that is
-- not passed, and is success or stands in the order
pub record Tells (lo hi : ℕ) (checks : List Check) (order : List Step) (r : Refusal) : Type 0 where
  pub stand : in_order lo hi checks order ≡ true
  pub first : r ≡ first_refusal checks
  pub told : among order r ≡ true

tells : (lo hi : ℕ) (checks : List Check) (order : List Step) {r : Refusal} → in_order lo hi checks order ≡ true → AllNumbered lo hi checks → r ≡ first_refusal checks
    → Tells lo hi checks order r
tells lo hi checks order stand numbers e = record { stand = stand; first = e; told = ap (among order) e ∙ told_among lo hi checks order stand numbers }

-- ---- an image: 2, 3, 4, 5

pub verdict_order : {image : List ℕ} {r : Refusal} → Judges image r
    → Tells 12 14 (image_checks image) (2 at 0 ∷ 3 at 0 ∷ 4 at 0 ∷ 5 at 0 ∷ []) r
unfolding verdict_of
verdict_order {image} j = tells 12 14 (image_checks image) _ refl tt (judged j)

-- ---- open an image: 2, 3, 4, 5, 6 first message, 6 second, 7, 12 to 14 first, 12 to 14 second

pub open_order : {image : List ℕ} {o : Opened} → Opens image o
    → Tells 12 14 (opening.open_checks image) (2 at 0 ∷ 3 at 0 ∷ 4 at 0 ∷ 5 at 0 ∷ 6 at 1 ∷ 6 at 2 ∷ 7 at 0 ∷ 12 to 14 at 1 ∷ 12 to 14 at 2 ∷ []) (refusal_in o)
unfolding opening.open_of opening.open_refusal
open_order {image} o =
    tells 12 14 (opening.open_checks image) _ refl (open_numbers image)
    (ap refusal_in (opened o) ∙ answer_tells _ (opening.open_checks image) refl)

-- ---- close a pair into a buffer: 2, 7, 14 or 15 first, 14 or 15 second

pub close_order : {first second : Message} {buffer after : List ℕ} {r : Refusal} → Closes first second buffer r after
    → Tells 14 15 (close_checks first second buffer) (2 at 0 ∷ 7 at 0 ∷ 14 to 15 at 1 ∷ 14 to 15 at 2 ∷ []) r
unfolding close_refusal
close_order {first} {second} {buffer} c = tells 14 15 (close_checks first second buffer) _ refl (close_numbers first second buffer) (closed c).0

-- ---- send an image as 128 levels from a previous level: 2 image, 2 buffer, 1, 3, 4, 5

pub send_order : {image : List ℕ} {previous : ℕ} {buffer after : List ℕ} {r : Refusal} → Sends image previous buffer r after
    → Tells 12 14 (send_checks image previous buffer) (2 at 0 ∷ 2 at 0 ∷ 1 at 0 ∷ 3 at 0 ∷ 4 at 0 ∷ 5 at 0 ∷ []) r
unfolding send_refusal
send_order {image} {previous} {buffer} s = tells 12 14 (send_checks image previous buffer) _ refl tt (sent s).0

-- ---- search a capture: 2, 9, 10

pub search_order : {capture : List ℕ} {start : ℕ} {f : Result ℕ Refusal} → Searches capture start f
    → Tells 12 14 (searching.search_checks capture start) (2 at 0 ∷ 9 at 0 ∷ 10 at 0 ∷ []) (refusal_in f)
unfolding searching.search_of searching.search_refusal
search_order {capture} {start} f =
    tells 12 14 (searching.search_checks capture start) _ refl tt
    (ap refusal_in (searched f) ∙ answer_tells _ (searching.search_checks capture start) refl)

-- ---- relay an image: opening's in their order, 2 on the output buffer, 2 X, 2 Y, 9 on X offsets, 9 on Y offsets, 9 on the first message's
-- X and Y, 9 on the second's

pub relay_order : {image : List ℕ} {xs ys : List ℤ} {buffer after : List ℕ} {r : Refusal} → Relays image xs ys buffer r after
    → Tells 12 14 (relay_checks image xs ys buffer)
    (2 at 0 ∷ 3 at 0 ∷ 4 at 0 ∷ 5 at 0 ∷ 6 at 1 ∷ 6 at 2 ∷ 7 at 0 ∷ 12 to 14 at 1 ∷ 12 to 14 at 2
    ∷ 2 at 0 ∷ 2 at 1 ∷ 2 at 2 ∷ 9 at 1 ∷ 9 at 2 ∷ 9 at 1 ∷ 9 at 2 ∷ 9 at 3 ∷ 9 at 4 ∷ []) r
unfolding relay_refusal
relay_order {image} {xs} {ys} {buffer} r = tells 12 14 (relay_checks image xs ys buffer) _ refl (relay_numbers image xs ys buffer) (relayed r).0

-- ---- track number to text, and text to track number: 2, then 9

pub text_order : {number : ℕ} {buffer after : List ℕ} {r : Refusal} → Spells number buffer r after
    → Tells 12 14 (texts.text_checks number buffer) (2 at 0 ∷ 9 at 0 ∷ []) r
unfolding texts.text_refusal
text_order {number} {buffer} s = tells 12 14 (texts.text_checks number buffer) _ refl tt (spelled s).0

pub number_order : {text : List ℕ} {t : Result ℕ Refusal} → Numbers text t → Tells 12 14 (texts.track_checks text) (2 at 0 ∷ 9 at 0 ∷ []) (refusal_in t)
unfolding texts.tracked_of texts.track_refusal
number_order {text} t =
    tells 12 14 (texts.track_checks text) _ refl tt
    (ap refusal_in (numbered_as t) ∙ answer_tells _ (texts.track_checks text) refl)

-- ---- feet to altitude: 9; a level: 1; a label alone: 6 (ours: docs/CONTRACTS.md, 'Exemptions')

pub altitude_order : {feet : ℤ} {h : Result AltSteps Refusal} → Climbs feet h → Tells 12 14 (heights.height_checks feet) (9 at 0 ∷ []) (refusal_in h)
unfolding heights.height_of heights.height_refusal
altitude_order {feet} h =
    tells 12 14 (heights.height_checks feet) _ refl tt
    (ap refusal_in (climbed h) ∙ answer_tells _ (heights.height_checks feet) refl)

pub level_order : {s : Receiver} {level : ℕ} {h : Heard} → Steps s level h → Tells 12 14 (check (not (refused level)) bad_level ∷ []) (1 at 0 ∷ []) h.refusal
level_order {s} {level} h =
    tells 12 14 (check (not (refused level)) bad_level ∷ []) _ refl tt (ap (λ (x : Heard). x.refusal) (stepped h) ∙ by (refused level))
  where
    by : (t : Bool) → (pick t (refused_by s) (answer_of (accepted s level))).refusal ≡ first_refusal (check (not t) bad_level ∷ [])
    by true = refl
    by false = refl

pub label_order : {label : ℕ} {n : Result Kind Refusal} → Names label n → Tells 12 14 (labels.name_checks label) (6 at 0 ∷ []) (refusal_in n)
unfolding labels.named_of labels.name_refusal
label_order {label} n =
    tells 12 14 (labels.name_checks label) _ refl tt
    (ap refusal_in (named n) ∙ answer_tells _ (labels.name_checks label) refl)
