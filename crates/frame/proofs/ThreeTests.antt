-- The verdict on a frame by its three tests. Assumes nothing.
use mathlib.Core.Bool.{Bool}
use mathlib.Core.List.{[], ◌∷◌}
use Rattle.refusal.specs.Refusals.{bad_start, bad_mark, bad_check}
use Rattle.refusal.specs.Checks.{check, first_refusal}
use Rattle.refusal.specs.declared.Refusal.{Refusal}

-- the three tests, as they came out
abbrev pub verdict_by : Bool → Bool → Bool → Refusal
verdict_by s m k = first_refusal (check s bad_start ∷ check m bad_mark ∷ check k bad_check ∷ [])
