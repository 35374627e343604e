-- What the rows of Examples.antt and Facts.antt ask, and what comes: by the definitions that give the public calls' answers.
use Prim.Native.Char.{code}
use Prim.Native.String.{String}
use Prim.Native.String as string
use mathlib.Core.Bool.{Bool}
use mathlib.Core.List.{List, [], ◌∷◌, map}
use Prim.Native.Nat.{ℕ, zero, suc, ◌-◌, ◌/◌, ◌%◌, ◌^◌}
use lib.IntN.{ℤ, pos}
use lib.ListN.{length, replicate}
use Rattle.std.specs.Prelude.{Result, Ok, Err}
use Rattle.refusal.specs.Checks.{refusal_in}
use Rattle.refusal.specs.declared.Refusal.{Refusal}
use Rattle.frame.specs.Frame.{verdict_of}
use Rattle.line.specs.Machine.{heard_of, run}
use Rattle.line.specs.Sending.{send_refusal, send_levels}
use Rattle.line.specs.declared.Heard.{Heard}
use Rattle.octets.specs.Feeding.{heard_at}
use Rattle.octets.specs.declared.HeardOctet.{HeardOctet}
use Rattle.capture.specs.Search.{search_of, position_found}
use Rattle.units.specs.Heights.{height_of}
use Rattle.kind.specs.declared.Kind.{Kind}
use Rattle.units.specs.declared.AltSteps.{AltSteps}
use Rattle.kind.specs.Layouts.{label_of}
use Rattle.kind.specs.Labels.{named_of}
use Rattle.message.specs.declared.Track.{Track}
use Rattle.message.specs.declared.Message.{Message}
use Rattle.message.specs.declared.Message.TheVariants as m
use Rattle.track.specs.TrackText.{text_refusal, text_after, tracked_of, number_in}
use Rattle.pair.specs.Opening.{Opened, open_of, word_message, first_word}
use Rattle.pair.specs.Closing.{close_refusal, close_image}
use Rattle.relay.specs.Relay.{relay_refusal, relay_image}

-- ---- the rows' words

-- a track at x and y
abbrev pub track : ℕ → ℕ → ℤ → ℤ → Track
track n q x y = record { number = n; quality = q; x = record { 0 = x }; y = record { 0 = y } }

-- an S.4 of track AA000 at x, and at 0
abbrev pub at : ℤ → Message
at x = m.S4 (track 0 0 x (pos 0))

-- the octets of a text; the numbers that its digits write
abbrev pub octets : String → List ℕ
octets string.[] = []
octets (string.◌∷◌ c rest) = code c ∷ octets rest

abbrev pub digits : String → List ℕ
digits text = map (λ (c : ℕ). c - 48) (octets text)

-- the octets of a number, the most significant first: so many of them, those of an image, those of a message
abbrev pub octets_in : ℕ → ℕ → List ℕ
octets_in zero n = []
octets_in (suc k) n = n / 256 ^ k % 256 ∷ octets_in k n

abbrev pub sixteen : ℕ → List ℕ
sixteen n = octets_in 16 n

abbrev pub seven : ℕ → List ℕ
seven n = octets_in 7 n

-- ---- what is asked

pub data Asked : Type 0 where
  -- an image to judge, or to open, or whose first track to name
  asked_verdict : List ℕ → Asked
  open_image : List ℕ → Asked
  name_track : List ℕ → Asked
  -- a label to name the kind of
  kind_named : ℕ → Asked
  -- two messages to close into a buffer
  close_pair : Message → Message → List ℕ → Asked
  -- an image to send after a level, into a buffer
  send_after : ℕ → List ℕ → List ℕ → Asked
  -- a level for a fresh receiver that has had some levels
  hear_after : List ℕ → ℕ → Asked
  -- octets for a fresh octet receiver: the answer to the last
  hear_octets : List ℕ → Asked
  -- a capture to search from a start
  search_from : ℕ → List ℕ → Asked
  -- a text to make a track number of, a track number to write into a buffer
  number_of : String → Asked
  text_of : ℕ → List ℕ → Asked
  -- an image to relay by offsets on X and on Y, into a buffer
  relay_by : List ℕ → List ℤ → List ℤ → List ℕ → Asked
  -- feet to make an altitude of
  asked_altitude : ℤ → Asked

-- ---- what comes

-- beside the number, the place and the bit
pub data Value : Type 0 where
  nothing : Value
  pair : Message → Message → Value
  buffer : List ℕ → Value
  heard : Bool → List ℕ → Value
  heard_in : Bool → ℕ → List ℕ → Value
  value : ℕ → Value

-- 01's number and place, 02's bit, and the value
pub record Came : Type 0 where
  pub number : ℕ
  pub place : ℕ
  pub bit : ℕ
  pub value : Value

-- with no bit, and with one
abbrev pub told : ℕ → ℕ → Value → Came
told number place v = record { number = number; place = place; bit = 0; value = v }

abbrev pub told_bit : ℕ → ℕ → ℕ → Value → Came
told_bit number place bit v = record { number = number; place = place; bit = bit; value = v }

abbrev tell : Refusal → Value → Came
tell r v = told_bit r.number r.place r.bit v

abbrev value_opened : Opened → Value
value_opened (Ok (first, second)) = pair first second
value_opened (Err r) = nothing

abbrev value_named : Result Kind Refusal → Value
value_named (Ok k) = value (label_of k)
value_named (Err r) = nothing

abbrev value_height : Result AltSteps Refusal → Value
value_height (Ok n) = value n.0
value_height (Err r) = nothing

-- the track number of a message that has one
abbrev track_in : Message → ℕ
track_in m.Blank = 0
track_in m.S0 = 0
track_in (m.S3 i) = 0
track_in (m.S4 t) = t.number
track_in (m.S4Plus t) = t.number
track_in (m.S5 a) = 0
track_in (m.S6 s) = 0
track_in (m.S8 t) = t.number
track_in (m.S8Plus t) = t.number
track_in (m.S9 c) = 0

abbrev name_of : ℕ → List ℕ → Came
name_of number b = tell (text_refusal number b) (buffer (text_after number b))

abbrev tell_heard : Heard → Came
tell_heard h = tell h.refusal (heard h.frame h.image)

abbrev value_octet : HeardOctet → Value
value_octet h = heard_in h.frame h.bit h.image

unfoldable pub answer : Asked → Came
answer (asked_verdict image) = tell (verdict_of image) nothing
answer (open_image image) = tell (refusal_in (open_of image)) (value_opened (open_of image))
answer (name_track image) = name_of (track_in (word_message (first_word image))) (replicate 5 0)
answer (kind_named label) = tell (refusal_in (named_of label)) (value_named (named_of label))
answer (close_pair first second b) = tell (close_refusal first second b) (buffer (close_image first second b))
answer (send_after level image b) = tell (send_refusal image level b) (buffer (send_levels image level b))
answer (hear_after before level) = tell_heard (heard_of (run before) level)
answer (hear_octets run) = told 0 0 (value_octet (heard_at run (length run - 1)))
answer (search_from start capture) =
    tell (refusal_in (search_of capture start)) (value (position_found (search_of capture start)))
answer (number_of text) = tell (refusal_in (tracked_of (octets text))) (value (number_in (tracked_of (octets text))))
answer (text_of number b) = name_of number b
answer (relay_by image xs ys b) = tell (relay_refusal image xs ys b) (buffer (relay_image image xs ys b))
answer (asked_altitude feet) = tell (refusal_in (height_of feet)) (value_height (height_of feet))

-- ---- a row

pub record Row : Type 0 where
  pub asked : Asked
  pub came : Came

infix 40 ◌⇒◌
abbrev pub ◌⇒◌ : Asked → Came → Row
a ⇒ c = record { asked = a; came = c }

-- what is asked in a table's rows is answered, and what its rows say comes
abbrev pub answers : List Row → List Came
answers rows = map (λ (r : Row). answer r.asked) rows

abbrev pub expected : List Row → List Came
expected rows = map (λ (r : Row). r.came) rows
