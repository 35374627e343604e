-- The shift of two messages by lists of offsets (01, 'The shift'; 02, item 6).
use Rattle.std.specs.Prelude.{Bool, true, List, [], ◌∷◌, ◌++◌, ℕ, leb, ℤ, length, Result, Option, Some, None}
use Rattle.refusal.specs.Refusals.{bad_length, out_of_range}
use Rattle.refusal.specs.Checks.{Check, check_at, first_refusal, answered}
use Rattle.refusal.specs.declared.Refusal.{Refusal}
use Rattle.units.specs.Offsets.{are_offsets, sum_z}
use Rattle.units.specs.Steps.{nearest_to, is_step}
use Rattle.message.specs.declared.Message.{Message}
use Rattle.position.specs.Positions.{position_of, placed_at}
use Rattle.position.specs.declared.Position.{Position}
use Rattle.shift.specs.declared.Offset.{Offset}

-- ---- one message, by dx and dy feet

-- each axis goes to the step nearest to 750 times the old value plus the feet; a message without a position passes through
abbrev pub shifted_from : Option Position → Message → ℤ → ℤ → Message
shifted_from (Some p) m dx dy = placed_at m (nearest_to p.x.0 dx) (nearest_to p.y.0 dy)
shifted_from None m dx dy = m

abbrev pub shifted : Message → ℤ → ℤ → Message
shifted m dx dy = shifted_from (position_of m) m dx dy

-- by lists: by their exact sums
abbrev pub shifted_by : List ℤ → List ℤ → Message → Message
shifted_by xs ys m = shifted m (sum_z xs) (sum_z ys)

-- whether the new X, and the new Y, is a step from -4096 to 4095; where there is no position nothing can be out of range
abbrev pub x_lands : Option Position → ℤ → Bool
x_lands (Some p) dx = is_step (nearest_to p.x.0 dx)
x_lands None dx = true

abbrev pub y_lands : Option Position → ℤ → Bool
y_lands (Some p) dy = is_step (nearest_to p.y.0 dy)
y_lands None dy = true

-- ---- the checks

-- 2 X, 2 Y, 9 on X offsets, 9 on Y offsets
abbrev pub list_checks : List ℤ → List ℤ → List Check
list_checks xs ys =
    check_at (leb (length xs) 8) bad_length 1
    ∷ check_at (leb (length ys) 8) bad_length 2
    ∷ check_at (are_offsets xs) out_of_range 1
    ∷ check_at (are_offsets ys) out_of_range 2
    ∷ []

-- 9 on a message's X result, 9 on its Y result, each with its place
abbrev pub result_checks : Message → ℤ → ℤ → ℕ → ℕ → List Check
result_checks m dx dy px py =
    check_at (x_lands (position_of m) dx) out_of_range px ∷ check_at (y_lands (position_of m) dy) out_of_range py ∷ []

-- of both messages: places 1 and 2 for the first's X and Y, 3 and 4 for the second's
abbrev pub both_checks : Message → Message → ℤ → ℤ → List Check
both_checks first second dx dy = result_checks first dx dy 1 2 ++ result_checks second dx dy 3 4

-- the lists, whether or not a message has a position, and then the results; the same lists serve both
abbrev pub shift_checks : Message → Message → List ℤ → List ℤ → List Check
shift_checks first second xs ys = list_checks xs ys ++ both_checks first second (sum_z xs) (sum_z ys)

-- ---- what is answered

unfoldable pub pair_shifted : Message → Message → List ℤ → List ℤ → Result (Message × Message) Refusal
pair_shifted first second xs ys =
    answered (first_refusal (shift_checks first second xs ys)) (shifted_by xs ys first, shifted_by xs ys second)

-- ---- the steps of the code

-- the lists, and their sums
unfoldable pub sums_of : List ℤ → List ℤ → Result Offset Refusal
sums_of xs ys = answered (first_refusal (list_checks xs ys)) (record { x = record { 0 = sum_z xs }; y = record { 0 = sum_z ys } })

-- both messages, by their sums
unfoldable pub both_shifted : Message → Message → ℤ → ℤ → Result (Message × Message) Refusal
both_shifted first second dx dy =
    answered (first_refusal (both_checks first second dx dy)) (shifted first dx dy, shifted second dx dy)

-- one message
unfoldable pub shifted_of : Message → ℤ → ℤ → ℕ → ℕ → Result Message Refusal
shifted_of m dx dy px py = answered (first_refusal (result_checks m dx dy px py)) (shifted m dx dy)
