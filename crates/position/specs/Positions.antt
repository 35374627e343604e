-- Which messages have a position (01, 'Messages': S.4, S.4+, S.8 and S.8+; 02, item 1: S.9), and a message with another.
use Rattle.std.specs.Prelude.{Bool, true, false, ℤ, pos, Option, Some, None}
use Rattle.message.specs.declared.Track.{Track}
use Rattle.message.specs.declared.Corner.{Corner}
use Rattle.message.specs.declared.Message.{Message}
use Rattle.message.specs.declared.Message.TheVariants.{Blank, S0, S3, S4, S4Plus, S5, S6, S8, S8Plus, S9}
use Rattle.position.specs.declared.Position.{Position}

abbrev pub track_position : Track → Option Position
track_position t = Some (record { x = t.x; y = t.y })

abbrev pub corner_position : Corner → Option Position
corner_position c = Some (record { x = c.x; y = c.y })

abbrev pub position_of : Message → Option Position
position_of Blank = None
position_of S0 = None
position_of (S3 i) = None
position_of (S4 t) = track_position t
position_of (S4Plus t) = track_position t
position_of (S5 a) = None
position_of (S6 s) = None
position_of (S8 t) = track_position t
position_of (S8Plus t) = track_position t
position_of (S9 c) = corner_position c

-- whether there is a position; X and Y in steps, 0 where there is none
abbrev pub is_somewhere : Option Position → Bool
is_somewhere (Some p) = true
is_somewhere None = false

abbrev pub x_of : Option Position → ℤ
x_of (Some p) = p.x.0
x_of None = pos 0

abbrev pub y_of : Option Position → ℤ
y_of (Some p) = p.y.0
y_of None = pos 0

-- all else in the message stays
abbrev pub placed_track : Track → ℤ → ℤ → Track
placed_track t x y = record { number = t.number; quality = t.quality; x = record { 0 = x }; y = record { 0 = y } }

abbrev pub placed_corner : Corner → ℤ → ℤ → Corner
placed_corner c x y =
    record { area = c.area; site = c.site; number = c.number; drop = c.drop; x = record { 0 = x }; y = record { 0 = y } }

abbrev pub placed_at : Message → ℤ → ℤ → Message
placed_at Blank x y = Blank
placed_at S0 x y = S0
placed_at (S3 i) x y = S3 i
placed_at (S4 t) x y = S4 (placed_track t x y)
placed_at (S4Plus t) x y = S4Plus (placed_track t x y)
placed_at (S5 a) x y = S5 a
placed_at (S6 s) x y = S6 s
placed_at (S8 t) x y = S8 (placed_track t x y)
placed_at (S8Plus t) x y = S8Plus (placed_track t x y)
placed_at (S9 c) x y = S9 (placed_corner c x y)
