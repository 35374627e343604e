-- DEMAND 1: no input, however damaged, makes it stop, read outside its buffer or run on. Each public call checks its own input. A refusal
-- gives its number and place, hands back the state it was given and writes nothing. That no call stops, reads outside its buffer or runs on
-- is what the prover shows of every function by itself, so no law says it. Over the calls' own contracts: no call asks anything of its
-- caller; what is refused is of 01's table as 02 amends it (`of_table`), and a success is number, place and bit 0; on a refusal each lent
-- buffer and the state are as they were, and the rest of the answer is zero. Which numbers each call gives stands in Orders.antt. Assumes
-- nothing.
use mathlib.Core.Path.{◌≡◌, refl, sym, ap, ◌∙◌}
use mathlib.Core.Bool.{Bool, true, false}
use mathlib.Core.List.{List}
use Prim.Native.Nat.{ℕ}
use lib.IntN.{ℤ}
use contract.Lifetimes.{Lfts}
use Rattle.std.specs.Prelude.{Result, Err}
use Rattle.bits.specs.Tests.{pick}
use Rattle.refusal.specs.Table.{of_table}
use Rattle.refusal.specs.Checks.{answered, refusal_in}
use Rattle.refusal.specs.declared.Refusal.{Refusal}
use Rattle.frame.specs.Frame.{image_checks, verdict_of}
use Rattle.line.specs.Levels.{refused}
use Rattle.line.specs.Machine.{no_image, accepted, answer_of, refused_by}
use Rattle.line.specs.Sending.{levels_after, image_bits, send_checks, send_refusal, send_levels}
use Rattle.line.specs.declared.Receiver.{Receiver}
use Rattle.line.specs.declared.Heard.{Heard}
use Rattle.capture.specs.Search as searching
use Rattle.units.specs.Heights as heights
use Rattle.units.specs.declared.AltSteps.{AltSteps}
use Rattle.kind.specs.Layouts.{all_kinds}
use Rattle.kind.specs.Labels as labels
use Rattle.kind.specs.declared.Kind.{Kind}
use Rattle.track.specs.TrackText as texts
use Rattle.words.specs.Words.{image_of}
use Rattle.message.specs.Codec.{message_word}
use Rattle.message.specs.declared.Message.{Message}
use Rattle.pair.specs.Opening as opening
use Rattle.pair.specs.Opening.{Opened}
use Rattle.pair.specs.Closing.{close_checks, close_refusal, close_image}
use Rattle.relay.specs.Relay.{first_message, second_message, relay_checks, relay_refusal, image_shifted, relay_image}
use Rattle.refusal.proofs.CheckLaws.{first_of_table, Refuses, answer_not, buffer_left, refusal_told}
use Rattle.pair.proofs.FirstTrouble.{open_bits, close_bits}
use Rattle.relay.proofs.Theorems.{relay_bits}
use Rattle.refusal.proofs.Refusal.of.Reads as of
use Rattle.refusal.proofs.Refusal.at.Reads as at
use Rattle.refusal.proofs.Refusal.inside.Reads as inside
use Rattle.refusal.proofs.refusal_in.Reads as told
use Rattle.frame.proofs.verdict.Reads as verdict
use Rattle.line.proofs.Receiver.fresh.Reads as fresh
use Rattle.line.proofs.Receiver.step.Reads as step
use Rattle.sending.proofs.send.Reads as send
use Rattle.octets.proofs.OctetReceiver.fresh.Reads as fresh-octets
use Rattle.octets.proofs.OctetReceiver.step.Reads as step-octet
use Rattle.capture.proofs.search.Reads as search-call
use Rattle.kind.proofs.label.Reads as label
use Rattle.kind.proofs.kind_named.Reads as kind_named
use Rattle.message.proofs.kind_of.Reads as kind-of
use Rattle.track.proofs.track_text.Reads as track-text
use Rattle.track.proofs.track_number.Reads as track-number
use Rattle.opening.proofs.open.Reads as open-call
use Rattle.closing.proofs.close.Reads as close
use Rattle.units.proofs.altitude.Reads as altitude
use Rattle.relay.proofs.relay.Reads as relay
use Rattle.link1.proofs.Calls.{Judges, judged, Opens, opened, Closes, closed, Relays, relayed, Steps, stepped, Sends, sent, Searches, searched, Climbs, climbed, Names, named, Spells, spelled, Numbers, numbered_as}

-- ---- 'each public call checks its own input': what it asks of its caller is nothing to show. `refusal_in` is of any type of value: at the
-- lifetimes that the type itself has

pub asks_nothing :
    ((κs : Lfts 0) (a : _) → of.Asked κs a)
    × ((κs : Lfts 0) (a : _) → at.Asked κs a)
    × ((κs : Lfts 0) (a : _) → inside.Asked κs a)
    × ((T : _) (laws : _) (copies : _) (clones : _) (dict : _) (a : _) → told.Asked T laws copies clones dict (T.lives, tt) a)
    × ((κs : Lfts 1) (a : _) → verdict.Asked κs a)
    × ((κs : Lfts 0) (a : _) → fresh.Asked κs a)
    × ((κs : Lfts 0) (a : _) → step.Asked κs a)
    × ((κs : Lfts 2) (a : _) → send.Asked κs a)
    × ((κs : Lfts 0) (a : _) → fresh-octets.Asked κs a)
    × ((κs : Lfts 0) (a : _) → step-octet.Asked κs a)
    × ((κs : Lfts 1) (a : _) → search-call.Asked κs a)
    × ((κs : Lfts 0) (a : _) → label.Asked κs a)
    × ((κs : Lfts 0) (a : _) → kind_named.Asked κs a)
    × ((κs : Lfts 0) (a : _) → kind-of.Asked κs a)
    × ((κs : Lfts 1) (a : _) → track-text.Asked κs a)
    × ((κs : Lfts 1) (a : _) → track-number.Asked κs a)
    × ((κs : Lfts 1) (a : _) → open-call.Asked κs a)
    × ((κs : Lfts 1) (a : _) → close.Asked κs a)
    × ((κs : Lfts 0) (a : _) → altitude.Asked κs a)
    × ((κs : Lfts 4) (a : _) → relay.Asked κs a)
asks_nothing = (
  λ κs a. tt,
  λ κs a. tt,
  λ κs a. tt,
  λ T laws copies clones dict a n lives. lives,
  λ κs a. tt,
  λ κs a. tt,
  λ κs a. tt,
  λ κs a. tt,
  λ κs a. tt,
  λ κs a. tt,
  λ κs a. tt,
  λ κs a. tt,
  λ κs a. tt,
  λ κs a. tt,
  λ κs a. tt,
  λ κs a. tt,
  λ κs a. tt,
  λ κs a. tt,
  λ κs a. tt,
  λ κs a. tt,
)

-- ---- calls that answer a refusal: it is of the table; a buffer that was lent is on a refusal as it was

abbrev pub LeavesBuffer : Refusal → List ℕ → List ℕ → Type 0
LeavesBuffer r buffer after = (of_table r ≡ true) × (Refuses r → after ≡ buffer)

pub verdict_refuses : {image : List ℕ} {r : Refusal} → Judges image r → of_table r ≡ true
unfolding verdict_of
verdict_refuses {image} j = ap of_table (judged j) ∙ first_of_table (image_checks image) refl tt

pub send_refuses : {image : List ℕ} {previous : ℕ} {buffer after : List ℕ} {r : Refusal} → Sends image previous buffer r after
    → LeavesBuffer r buffer after
unfolding send_refusal send_levels
send_refuses {image} {previous} {buffer} s =
    buffer_left (send_checks image previous buffer) refl tt (levels_after previous (image_bits image)) buffer (sent s).0 (sent s).1

pub close_refuses : {first second : Message} {buffer after : List ℕ} {r : Refusal} → Closes first second buffer r after
    → LeavesBuffer r buffer after
unfolding close_refusal close_image
close_refuses {first} {second} {buffer} c =
    buffer_left (close_checks first second buffer) refl (close_bits first second buffer) (image_of (message_word first) (message_word second)) buffer (closed c).0 (closed c).1

pub relay_refuses : {image : List ℕ} {xs ys : List ℤ} {buffer after : List ℕ} {r : Refusal} → Relays image xs ys buffer r after
    → LeavesBuffer r buffer after
unfolding relay_refusal relay_image
relay_refuses {image} {xs} {ys} {buffer} r =
    buffer_left (relay_checks image xs ys buffer) refl (relay_bits image xs ys buffer) (image_shifted (first_message image) (second_message image) xs ys) buffer (relayed r).0 (relayed r).1

pub track_text_refuses : {number : ℕ} {buffer after : List ℕ} {r : Refusal} → Spells number buffer r after
    → LeavesBuffer r buffer after
unfolding texts.text_refusal texts.text_after
track_text_refuses {number} {buffer} s = buffer_left (texts.text_checks number buffer) refl tt (texts.text_of number) buffer (spelled s).0 (spelled s).1

-- ---- calls that answer a value or a refusal: the refusal of the answer is of the table, and an answer `Err` is never a success

abbrev pub TellsRefusal : {A : Type 0} → Result A Refusal → Type 0
TellsRefusal r = (of_table (refusal_in r) ≡ true) × ((x : Refusal) → r ≡ Err x → Refuses x)

pub open_refuses : {image : List ℕ} {r : Opened} → Opens image r → TellsRefusal r
unfolding opening.open_of opening.open_refusal
open_refuses {image} o =
    refusal_told (opening.open_checks image) refl (open_bits image) (opening.word_message (opening.first_word image), opening.word_message (opening.second_word image)) (opened o)

pub kind_named_refuses : {label : ℕ} {r : Result Kind Refusal} → Names label r → TellsRefusal r
unfolding labels.named_of labels.name_refusal
kind_named_refuses {label} n = refusal_told (labels.name_checks label) refl tt (labels.kind_named (labels.kind_from all_kinds label)) (named n)

pub search_refuses : {capture : List ℕ} {start : ℕ} {r : Result ℕ Refusal} → Searches capture start r → TellsRefusal r
unfolding searching.search_of searching.search_refusal
search_refuses {capture} {start} f = refusal_told (searching.search_checks capture start) refl tt (searching.least_from capture start) (searched f)

pub track_number_refuses : {text : List ℕ} {r : Result ℕ Refusal} → Numbers text r → TellsRefusal r
unfolding texts.tracked_of texts.track_refusal
track_number_refuses {text} t = refusal_told (texts.track_checks text) refl tt (texts.text_number text) (numbered_as t)

pub altitude_refuses : {feet : ℤ} {r : Result AltSteps Refusal} → Climbs feet r → TellsRefusal r
unfolding heights.height_of heights.height_refusal
altitude_refuses {feet} h = refusal_told (heights.height_checks feet) refl tt (record { 0 = heights.altitude_of feet }) (climbed h)

-- ---- and so is an answer `Err` of the calls that answer nothing but whether they refuse

never_success : (r s : Refusal) {answer : Result (Unit {0}) Refusal} → answer ≡ answered s tt → answer ≡ Err r → Refuses r
never_success r s e f = (answer_not tt s r (sym e ∙ f)).1

pub refusals_refuse :
    ((κs : Lfts 1) (a : _) (r : _) (e : _) → verdict.Post κs a r e → (x : Refusal) → r ≡ Err x → Refuses x)
    × ((κs : Lfts 2) (a : _) (r : _) (e : _) → send.Post κs a r e → (x : Refusal) → r ≡ Err x → Refuses x)
    × ((κs : Lfts 1) (a : _) (r : _) (e : _) → close.Post κs a r e → (x : Refusal) → r ≡ Err x → Refuses x)
    × ((κs : Lfts 4) (a : _) (r : _) (e : _) → relay.Post κs a r e → (x : Refusal) → r ≡ Err x → Refuses x)
    × ((κs : Lfts 1) (a : _) (r : _) (e : _) → track-text.Post κs a r e → (x : Refusal) → r ≡ Err x → Refuses x)
refusals_refuse = (
  λ κs a r e p x f. never_success x _ p f,
  λ κs a r e p x f. never_success x _ p.0 f,
  λ κs a r e p x f. never_success x _ p.0 f,
  λ κs a r e p x f. never_success x _ p.0 f,
  λ κs a r e p x f. never_success x _ p.0 f,
)

-- ---- the value of a refusal is zero
pub no_position : (x : Refusal) → searching.position_found (Err x) ≡ 0
no_position x = refl

pub no_number : (x : Refusal) → texts.number_in (Err x) ≡ 0
no_number x = refl

pub no_altitude : (x : Refusal) → heights.altitude_in (Err x) ≡ 0
no_altitude x = refl

-- ---- a call that hands back state in either case: a level that is refused leaves the receiver as it was, with no frame and sixteen zero
-- octets

pub step_refuses : {s : Receiver} {level : ℕ} {h : Heard} → Steps s level h
    → (of_table h.refusal ≡ true) × (Refuses h.refusal → (h.receiver ≡ s) × (h.frame ≡ false) × (h.image ≡ no_image))
step_refuses {s} {level} {h} p = go (refused level) (stepped p)
  where
    go : (t : Bool) → h ≡ pick t (refused_by s) (answer_of (accepted s level))
        → (of_table h.refusal ≡ true) × (Refuses h.refusal → (h.receiver ≡ s) × (h.frame ≡ false) × (h.image ≡ no_image))
    go true q = (
      ap (λ (h : Heard). of_table h.refusal) q,
      λ r. (ap (λ (h : Heard). h.receiver) q, ap (λ (h : Heard). h.frame) q, ap (λ (h : Heard). h.image) q),
    )
    go false q = (ap (λ (h : Heard). of_table h.refusal) q, λ r. absurd (r (ap (λ (h : Heard). h.refusal.number) q)))
