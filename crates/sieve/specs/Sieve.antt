-- What the steps of the search promise one another; Search.antt says what the search is for.
use Rattle.std.specs.Prelude.{◌≡◌, Bool, true, false, List, ℕ, ◌*◌, ◌≤◌, ◌<◌, length}
use Rattle.std.specs.ControlFlow.{MatchControlFlow}
use Rattle.std.specs.declared.ops.ControlFlow.{ControlFlow}
use Rattle.sieve.specs.Capture.{good_at, NoneIn}

-- octets i to r - 1 hold the first bit of no good frame
pub record PassedOver (capture : List ℕ) (i r : ℕ) : Type 0 where
  pub from : i ≤ r
  pub to : r ≤ length capture
  pub none : NoneIn capture (8 * i) (8 * r)

-- a good frame at `at`, the first from p on; or none from p on below `at`, which lies further on
pub record Looked (capture : List ℕ) (p : ℕ) (frame : Bool) (at : ℕ) : Type 0 where
  pub from : p ≤ at
  pub to : at ≤ 8 * length capture
  pub none : NoneIn capture p at
  pub found : frame ≡ true → good_at capture at ≡ true
  pub further : frame ≡ false → p < at

-- an answer: a good frame to stop at, or none before a position to go on from
abbrev pub Seen : List ℕ → ℕ → ControlFlow ℕ ℕ → Type 0
Seen capture p answer = MatchControlFlow answer (Looked capture p false) (Looked capture p true)
