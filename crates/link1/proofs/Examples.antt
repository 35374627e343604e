-- 01, 'Examples to hold against it': every example marked *. One table, one proof. Assumes nothing.
use mathlib.Core.Path.{◌≡◌, refl}
use mathlib.Core.Bool.{false}
use mathlib.Core.List.{List, [], ◌∷◌}
use Prim.Native.Nat.{ℕ}
use lib.IntN.{ℤ, pos, negsuc}
use lib.ListN.{replicate}
use Rattle.bits.specs.Tests.{every}
use Rattle.bits.specs.Numbers.{num_of, sum_of, tab}
use Rattle.bits.specs.Octets.{octets_of}
use Rattle.frame.specs.Frame.{verdict_of}
use Rattle.frame.proofs.Images.{image_t, image_n, image_p, image_q}
use Rattle.words.specs.Words.{image_of}
use Rattle.units.specs.Offsets.{within, are_offsets, sum_z}
use Rattle.units.specs.Steps.{near}
use Rattle.units.specs.Heights.{near_alt, altitude_of, height_refusal, height_of}
use Rattle.message.specs.Codec.{message_trouble, message_word}
use Rattle.message.specs.declared.Amplifying.{Amplifying}
use Rattle.message.specs.declared.Message.TheVariants as m
use Rattle.track.specs.TrackText.{text_refusal, text_after}
use Rattle.pair.specs.Pairs.{pair_of}
use Rattle.pair.specs.Opening.{open_refusal, open_of}
use Rattle.pair.specs.Closing.{close_refusal, close_image}
use Rattle.relay.specs.Relay.{relay_refusal, relay_image}
use Rattle.link1.proofs.Asking.{Asked, asked_verdict, open_image, name_track, relay_by, asked_altitude}
use Rattle.link1.proofs.Asking.{Value, nothing, pair, buffer, value, told, answer, Row, ◌⇒◌, answers, expected, track, at, octets}

-- amplifying data with all fields zero
abbrev zeros : Amplifying
zeros =
    record {
      altitude = record { 0 = 0 };
      strength = 0;
      identification = 0;
      special23 = 0;
      simulated = false;
      drop = false;
      traffic = 0;
      vx = pos 0;
      allocation = 0;
      special39 = 0;
      vy = pos 0;
    }

-- P with its track at x; relayed by offsets on X into a buffer that is lent
abbrev image_at : ℤ → List ℕ
image_at x = close_image (at x) m.Blank image_p

abbrev lent : List ℕ
lent = replicate 16 5

abbrev relay_from : ℤ → List ℤ → Asked
relay_from x by = relay_by (image_at x) by [] lent

abbrev track_at : ℤ → Value
track_at x = buffer (image_at x)

-- number, place, value; a relay that is refused leaves the buffer as it was
pub examples : List Row
examples =
    (open_image image_t ⇒ told 0 0 (pair m.S0 m.S0))
    ∷ (asked_verdict image_n ⇒ told 0 0 nothing)
    ∷ (open_image image_n ⇒ told 7 0 nothing)
    ∷ (open_image image_p ⇒ told 0 0 (pair (at (pos 0)) m.Blank))
    ∷ (name_track image_p ⇒ told 0 0 (buffer (octets "AA000")))
    ∷ (open_image image_q ⇒ told 0 0 (pair (m.S4Plus (track 0 0 (pos 0) (pos 0))) (m.S5 zeros)))
    ∷ (relay_from (pos 1) (pos 374 ∷ []) ⇒ told 0 0 (track_at (pos 1)))
    ∷ (relay_from (pos 1) (pos 375 ∷ []) ⇒ told 0 0 (track_at (pos 2)))
    ∷ (relay_from (negsuc 0) (negsuc 374 ∷ []) ⇒ told 0 0 (track_at (negsuc 1)))
    ∷ (relay_from (pos 0) (pos 400 ∷ pos 400 ∷ []) ⇒ told 0 0 (track_at (pos 1)))
    ∷ (relay_from (pos 4095) (pos 374 ∷ []) ⇒ told 0 0 (track_at (pos 4095)))
    ∷ (relay_from (pos 4095) (pos 375 ∷ []) ⇒ told 9 1 (buffer lent))
    ∷ (relay_from (negsuc 4095) (negsuc 373 ∷ []) ⇒ told 0 0 (track_at (negsuc 4095)))
    ∷ (relay_from (negsuc 4095) (negsuc 374 ∷ []) ⇒ told 9 1 (buffer lent))
    ∷ (asked_altitude (pos 562) ⇒ told 0 0 (value 1))
    ∷ (asked_altitude (pos 563) ⇒ told 0 0 (value 2))
    ∷ (asked_altitude (pos 191812) ⇒ told 0 0 (value 511))
    ∷ (asked_altitude (pos 191813) ⇒ told 9 0 nothing)
    ∷ []

pub examples_hold : answers examples ≡ expected examples
unfolding examples answer open_of open_refusal close_refusal close_image pair_of verdict_of every sum_of num_of tab octets_of image_of text_refusal text_after relay_refusal relay_image message_trouble message_word are_offsets within sum_z near near_alt altitude_of height_refusal height_of
examples_hold = refl
