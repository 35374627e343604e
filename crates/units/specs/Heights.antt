-- Altitude steps of 375 feet (01, 'Messages').
use Rattle.std.specs.Prelude.{List, [], ◌∷◌, ℕ, ◌+◌, ◌/◌, leb, ℤ, pos, nat_abs, Result, Ok, Err}
use Rattle.std.specs.Int.Signed.{le_z}
use Rattle.bits.specs.Tests.{pick}
use Rattle.refusal.specs.Refusals.{out_of_range}
use Rattle.refusal.specs.Checks.{Check, check, first_refusal, answered}
use Rattle.refusal.specs.declared.Refusal.{Refusal}
use Rattle.units.specs.declared.AltSteps.{AltSteps}

-- the nearest step; 375 is odd, so there is no half
unfoldable pub near_alt : ℕ → ℕ
near_alt f = (f + 187) / 375

-- 375 feet and below give 1, otherwise the nearest step
unfoldable pub altitude_of : ℤ → ℕ
altitude_of f = pick (le_z f (pos 375)) 1 (near_alt (nat_abs f))

-- a result over 511 is refused 9
abbrev pub height_checks : ℤ → List Check
height_checks f = check (leb (altitude_of f) 511) out_of_range ∷ []

unfoldable pub height_refusal : ℤ → Refusal
height_refusal f = first_refusal (height_checks f)

-- what `altitude` answers
unfoldable pub height_of : ℤ → Result AltSteps Refusal
height_of f = answered (height_refusal f) (record { 0 = altitude_of f })

-- the altitude of an answer: 0 where there is none
abbrev pub altitude_in : Result AltSteps Refusal → ℕ
altitude_in (Ok n) = n.0
altitude_in (Err r) = 0
