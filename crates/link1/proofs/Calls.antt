-- THE PUBLIC CALLS, as the laws of this folder speak of them: what goes in and what comes out, by the call's own contract. `Post κs a r e`
-- is what the kit makes of a function's `ensures`: the answer r, with e at the exit, meets it on the arguments a, whatever lifetimes κs
-- they have. So `Opens image r` says that the contract of `open` leaves the answer r to an image of these octets. Of a call that answers
-- nothing but whether it is refused, r is its refusal as 01 numbers it, success with number 0 (`refusal_in`); that what such a call refuses
-- is never a success stands in Demand1. Of each call: what it says as one equation, and that every input has an answer. Assumes nothing.
use mathlib.Core.Path.{◌≡◌, refl, ap, subst, ◌∙◌}
use mathlib.Core.List.{List}
use Prim.Native.Nat.{ℕ}
use lib.IntN.{ℤ}
use contract.Lifetimes.{Lfts}
use denote.Ref.{Bor}
use denote.MutBor.{MutBor}
use Rattle.std.specs.Prelude.{Result}
use Rattle.refusal.specs.Checks.{answered, refusal_in}
use Rattle.refusal.specs.declared.Refusal.{Refusal}
use Rattle.frame.specs.Frame.{image_checks, verdict_of}
use Rattle.line.specs.Machine.{heard_of}
use Rattle.line.specs.Sending.{send_checks, send_refusal, send_levels}
use Rattle.line.specs.declared.Receiver.{Receiver}
use Rattle.line.specs.declared.Heard.{Heard}
use Rattle.octets.specs.Feeding.{heard_octet}
use Rattle.octets.specs.declared.OctetReceiver.{OctetReceiver}
use Rattle.octets.specs.declared.HeardOctet.{HeardOctet}
use Rattle.capture.specs.Search.{search_of}
use Rattle.units.specs.Heights.{height_of}
use Rattle.units.specs.declared.AltSteps.{AltSteps}
use Rattle.kind.specs.Labels.{named_of}
use Rattle.kind.specs.declared.Kind.{Kind}
use Rattle.message.specs.declared.Message.{Message}
use Rattle.track.specs.TrackText.{tracked_of, text_checks, text_refusal, text_after}
use Rattle.pair.specs.Opening.{Opened, open_of}
use Rattle.pair.specs.Closing.{close_checks, close_refusal, close_image}
use Rattle.relay.specs.Relay.{relay_checks, relay_refusal, relay_image}
use Rattle.refusal.proofs.CheckLaws.{answer_tells}
use Rattle.frame.proofs.verdict.Reads as verdict
use Rattle.line.proofs.Receiver.step.Reads as step
use Rattle.sending.proofs.send.Reads as send
use Rattle.octets.proofs.OctetReceiver.step.Reads as step-octet
use Rattle.capture.proofs.search.Reads as search-call
use Rattle.units.proofs.altitude.Reads as altitude
use Rattle.kind.proofs.kind_named.Reads as kind_named
use Rattle.track.proofs.track_text.Reads as track-text
use Rattle.track.proofs.track_number.Reads as track-number
use Rattle.opening.proofs.open.Reads as open-call
use Rattle.closing.proofs.close.Reads as close
use Rattle.relay.proofs.relay.Reads as relay

-- a reference to a value, and one that lends it to be changed
abbrev lent : {X : Type 0} → X → Bor X
lent x = record { ref_ptr = (0, 0); now = x }

abbrev lent_out : {X : Type 0} → X → MutBor X
lent_out x = record { ghost_name = 0; ref_ptr = (0, 0); now = x }

-- ---- `verdict`: an image, and the refusal

pub data Judges : List ℕ → Refusal → Type 0 where
  judges : (κs : Lfts 1) (a : _) (r : Result (Unit {0}) Refusal) (e : _) → verdict.Post κs a r e → Judges a.0.now (refusal_in r)

verdict_tells : (image : List ℕ) → refusal_in (answered (verdict_of image) (tt {0})) ≡ verdict_of image
unfolding verdict_of
verdict_tells image = answer_tells tt (image_checks image) refl

pub judged : {image : List ℕ} {r : Refusal} → Judges image r → r ≡ verdict_of image
judged (judges κs a r e p) = ap refusal_in p ∙ verdict_tells a.0.now

pub judges_any : (κs : Lfts 1) (image : List ℕ) → Judges image (verdict_of image)
judges_any κs image = subst (Judges image) (verdict_tells image) (judges κs (lent image, tt) (answered (verdict_of image) tt) (lent image, tt) refl)

-- ---- `open`: an image, and the pair or the refusal

pub data Opens : List ℕ → Opened → Type 0 where
  opens : (κs : Lfts 1) (a : _) (r : Opened) (e : _) → open-call.Post κs a r e → Opens a.0.now r

pub opened : {image : List ℕ} {r : Opened} → Opens image r → r ≡ open_of image
opened (opens κs a r e p) = p

pub opens_any : (κs : Lfts 1) (image : List ℕ) → Opens image (open_of image)
opens_any κs image = opens κs (lent image, tt) (open_of image) (lent image, tt) refl

-- ---- `close`: two messages and a buffer, the refusal and the buffer afterwards

pub data Closes : Message → Message → List ℕ → Refusal → List ℕ → Type 0 where
  closes : (κs : Lfts 1) (a : _) (r : Result (Unit {0}) Refusal) (e : _) → close.Post κs a r e → Closes a.0 a.1.0 a.1.1.0.now (refusal_in r) e.1.1.0.now

close_tells : (first second : Message) (buffer : List ℕ) → refusal_in (answered (close_refusal first second buffer) (tt {0})) ≡ close_refusal first second buffer
unfolding close_refusal
close_tells first second buffer = answer_tells tt (close_checks first second buffer) refl

pub closed : {first second : Message} {buffer after : List ℕ} {r : Refusal} → Closes first second buffer r after
    → (r ≡ close_refusal first second buffer) × (after ≡ close_image first second buffer)
closed (closes κs a r e p) = (ap refusal_in p.0 ∙ close_tells a.0 a.1.0 a.1.1.0.now, p.1)

pub closes_any : (κs : Lfts 1) (first second : Message) (buffer : List ℕ) → Closes first second buffer (close_refusal first second buffer) (close_image first second buffer)
closes_any κs first second buffer =
    subst (λ (r : Refusal). Closes first second buffer r (close_image first second buffer)) (close_tells first second buffer)
    (closes κs (first, (second, (lent_out buffer, tt))) (answered (close_refusal first second buffer) tt) (first, (second, (lent_out (close_image first second buffer), tt))) (refl, refl))

-- ---- `relay`: an image, the offsets on X and on Y and a buffer, the refusal and the buffer afterwards

pub data Relays : List ℕ → List ℤ → List ℤ → List ℕ → Refusal → List ℕ → Type 0 where
  relays : (κs : Lfts 4) (a : _) (r : Result (Unit {0}) Refusal) (e : _) → relay.Post κs a r e
      → Relays a.0.now a.1.0.now a.1.1.0.now a.1.1.1.0.now (refusal_in r) e.1.1.1.0.now

relay_tells : (image : List ℕ) (xs ys : List ℤ) (buffer : List ℕ) → refusal_in (answered (relay_refusal image xs ys buffer) (tt {0})) ≡ relay_refusal image xs ys buffer
unfolding relay_refusal
relay_tells image xs ys buffer = answer_tells tt (relay_checks image xs ys buffer) refl

pub relayed : {image : List ℕ} {xs ys : List ℤ} {buffer after : List ℕ} {r : Refusal} → Relays image xs ys buffer r after
    → (r ≡ relay_refusal image xs ys buffer) × (after ≡ relay_image image xs ys buffer)
relayed (relays κs a r e p) = (ap refusal_in p.0 ∙ relay_tells a.0.now a.1.0.now a.1.1.0.now a.1.1.1.0.now, p.1)

pub relays_any : (κs : Lfts 4) (image : List ℕ) (xs ys : List ℤ) (buffer : List ℕ) → Relays image xs ys buffer (relay_refusal image xs ys buffer) (relay_image image xs ys buffer)
relays_any κs image xs ys buffer =
    subst (λ (r : Refusal). Relays image xs ys buffer r (relay_image image xs ys buffer)) (relay_tells image xs ys buffer)
    (relays κs (lent image, (lent xs, (lent ys, (lent_out buffer, tt)))) (answered (relay_refusal image xs ys buffer) tt)
    (lent image, (lent xs, (lent ys, (lent_out (relay_image image xs ys buffer), tt)))) (refl, refl))

-- ---- `Receiver::step`: a receiver and a level, and the answer; `OctetReceiver::step`: a receiver and an octet

pub data Steps : Receiver → ℕ → Heard → Type 0 where
  steps : (κs : Lfts 0) (a : _) (h : Heard) (e : _) → step.Post κs a h e → Steps a.0 a.1.0 h

pub stepped : {s : Receiver} {level : ℕ} {h : Heard} → Steps s level h → h ≡ heard_of s level
stepped (steps κs a h e p) = p

pub steps_any : (κs : Lfts 0) (s : Receiver) (level : ℕ) → Steps s level (heard_of s level)
steps_any κs s level = steps κs (s, (level, tt)) (heard_of s level) (s, (level, tt)) refl

pub data Takes : OctetReceiver → ℕ → HeardOctet → Type 0 where
  takes : (κs : Lfts 0) (a : _) (h : HeardOctet) (e : _) → step-octet.Post κs a h e → Takes a.0 a.1.0 h

pub taken : {s : OctetReceiver} {octet : ℕ} {h : HeardOctet} → Takes s octet h → h ≡ heard_octet s octet
taken (takes κs a h e p) = p

pub takes_any : (κs : Lfts 0) (s : OctetReceiver) (octet : ℕ) → Takes s octet (heard_octet s octet)
takes_any κs s octet = takes κs (s, (octet, tt)) (heard_octet s octet) (s, (octet, tt)) refl

-- ---- `send`: an image, the level before it and a buffer, the refusal and the buffer afterwards

pub data Sends : List ℕ → ℕ → List ℕ → Refusal → List ℕ → Type 0 where
  sends : (κs : Lfts 2) (a : _) (r : Result (Unit {0}) Refusal) (e : _) → send.Post κs a r e → Sends a.0.now a.1.0 a.1.1.0.now (refusal_in r) e.1.1.0.now

send_tells : (image : List ℕ) (previous : ℕ) (buffer : List ℕ) → refusal_in (answered (send_refusal image previous buffer) (tt {0})) ≡ send_refusal image previous buffer
unfolding send_refusal
send_tells image previous buffer = answer_tells tt (send_checks image previous buffer) refl

pub sent : {image : List ℕ} {previous : ℕ} {buffer after : List ℕ} {r : Refusal} → Sends image previous buffer r after
    → (r ≡ send_refusal image previous buffer) × (after ≡ send_levels image previous buffer)
sent (sends κs a r e p) = (ap refusal_in p.0 ∙ send_tells a.0.now a.1.0 a.1.1.0.now, p.1)

pub sends_any : (κs : Lfts 2) (image : List ℕ) (previous : ℕ) (buffer : List ℕ) → Sends image previous buffer (send_refusal image previous buffer) (send_levels image previous buffer)
sends_any κs image previous buffer =
    subst (λ (r : Refusal). Sends image previous buffer r (send_levels image previous buffer)) (send_tells image previous buffer)
    (sends κs (lent image, (previous, (lent_out buffer, tt))) (answered (send_refusal image previous buffer) tt) (lent image, (previous, (lent_out (send_levels image previous buffer), tt))) (refl, refl))

-- ---- `search`: a capture and a start, and the position or the refusal

pub data Searches : List ℕ → ℕ → Result ℕ Refusal → Type 0 where
  searches : (κs : Lfts 1) (a : _) (r : Result ℕ Refusal) (e : _) → search-call.Post κs a r e → Searches a.0.now a.1.0 r

pub searched : {capture : List ℕ} {start : ℕ} {r : Result ℕ Refusal} → Searches capture start r → r ≡ search_of capture start
searched (searches κs a r e p) = p

pub searches_any : (κs : Lfts 1) (capture : List ℕ) (start : ℕ) → Searches capture start (search_of capture start)
searches_any κs capture start = searches κs (lent capture, (start, tt)) (search_of capture start) (lent capture, (start, tt)) refl

-- ---- `altitude`: feet, and the altitude step or the refusal

pub data Climbs : ℤ → Result AltSteps Refusal → Type 0 where
  climbs : (κs : Lfts 0) (a : _) (r : Result AltSteps Refusal) (e : _) → altitude.Post κs a r e → Climbs a.0.0 r

pub climbed : {feet : ℤ} {r : Result AltSteps Refusal} → Climbs feet r → r ≡ height_of feet
climbed (climbs κs a r e p) = p

pub climbs_any : (κs : Lfts 0) (feet : ℤ) → Climbs feet (height_of feet)
climbs_any κs feet = climbs κs (record { 0 = feet }, tt) (height_of feet) (record { 0 = feet }, tt) refl

-- ---- `kind_named`: a label, and the kind or the refusal

pub data Names : ℕ → Result Kind Refusal → Type 0 where
  names : (κs : Lfts 0) (a : _) (r : Result Kind Refusal) (e : _) → kind_named.Post κs a r e → Names a.0 r

pub named : {label : ℕ} {r : Result Kind Refusal} → Names label r → r ≡ named_of label
named (names κs a r e p) = p

pub names_any : (κs : Lfts 0) (label : ℕ) → Names label (named_of label)
names_any κs label = names κs (label, tt) (named_of label) (label, tt) refl

-- ---- `track_text`: a track number and a buffer, the refusal and the buffer afterwards; `track_number`: a text, and the number or the
-- refusal

pub data Spells : ℕ → List ℕ → Refusal → List ℕ → Type 0 where
  spells : (κs : Lfts 1) (a : _) (r : Result (Unit {0}) Refusal) (e : _) → track-text.Post κs a r e → Spells a.0 a.1.0.now (refusal_in r) e.1.0.now

text_tells : (number : ℕ) (buffer : List ℕ) → refusal_in (answered (text_refusal number buffer) (tt {0})) ≡ text_refusal number buffer
unfolding text_refusal
text_tells number buffer = answer_tells tt (text_checks number buffer) refl

pub spelled : {number : ℕ} {buffer after : List ℕ} {r : Refusal} → Spells number buffer r after
    → (r ≡ text_refusal number buffer) × (after ≡ text_after number buffer)
spelled (spells κs a r e p) = (ap refusal_in p.0 ∙ text_tells a.0 a.1.0.now, p.1)

pub spells_any : (κs : Lfts 1) (number : ℕ) (buffer : List ℕ) → Spells number buffer (text_refusal number buffer) (text_after number buffer)
spells_any κs number buffer =
    subst (λ (r : Refusal). Spells number buffer r (text_after number buffer)) (text_tells number buffer)
    (spells κs (number, (lent_out buffer, tt)) (answered (text_refusal number buffer) tt) (number, (lent_out (text_after number buffer), tt)) (refl, refl))

pub data Numbers : List ℕ → Result ℕ Refusal → Type 0 where
  numbers : (κs : Lfts 1) (a : _) (r : Result ℕ Refusal) (e : _) → track-number.Post κs a r e → Numbers a.0.now r

pub numbered_as : {text : List ℕ} {r : Result ℕ Refusal} → Numbers text r → r ≡ tracked_of text
numbered_as (numbers κs a r e p) = p

pub numbers_any : (κs : Lfts 1) (text : List ℕ) → Numbers text (tracked_of text)
numbers_any κs text = numbers κs (lent text, tt) (tracked_of text) (lent text, tt) refl
