-- Link steps of 750 feet (01, 'The shift').
use Rattle.std.specs.Prelude.{Bool, suc, ◌+◌, ◌/◌, ℤ, pos, negsuc, neg_ℤ, ◌+ℤ◌, ◌*ℤ◌, Option, Some, None}
use Rattle.bits.specs.Tests.{pick}
use Rattle.units.specs.Offsets.{within}
use Rattle.units.specs.declared.LinkSteps.{LinkSteps}

-- the step nearest to so many feet, a half away from zero: `near_nearest` in proofs/Nearest.antt says that it is
unfoldable pub near : ℤ → ℤ
near (pos f) = pos ((f + 375) / 750)
near (negsuc f) = neg_ℤ (pos ((suc f + 375) / 750))

-- the step nearest to 750 times the old value plus so many feet
abbrev pub nearest_to : ℤ → ℤ → ℤ
nearest_to old feet = near (pos 750 *ℤ old +ℤ feet)

-- from -4096 to 4095
abbrev pub is_step : ℤ → Bool
is_step z = within (negsuc 4095) (pos 4095) z

-- where a position moved by so many feet is, if that is a step
unfoldable pub moved_by : ℤ → ℤ → Option LinkSteps
moved_by old feet = pick (is_step (nearest_to old feet)) (Some (record { 0 = nearest_to old feet })) None
