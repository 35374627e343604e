-- Where good frames lie in a capture, a run of octets of decoded bits (01, 'From levels to a frame'). Positions count from 0.
use Rattle.std.specs.Prelude.{◌≡◌, Bool, true, false, List, ℕ, ◌+◌, ◌*◌, ◌≤◌, ◌<◌, leb, length}
use Rattle.bits.specs.Tests.{both}
use Rattle.frame.specs.Frame.{good_frame, frame_at}

-- a good frame lies whole at position p of the capture
unfoldable pub good_at : List ℕ → ℕ → Bool
good_at capture p = both (leb (p + 128) (8 * length capture)) (good_frame (frame_at capture p))

-- none from position a on, below b
abbrev pub NoneIn : List ℕ → ℕ → ℕ → Type 0
NoneIn capture a b = (p : ℕ) → a ≤ p → p < b → good_at capture p ≡ false

-- the position is the least one from the start on; none at or after the start
abbrev pub Least : List ℕ → ℕ → ℕ → Type 0
Least capture start p = (start ≤ p) × (good_at capture p ≡ true) × NoneIn capture start p

abbrev pub NoneFrom : List ℕ → ℕ → Type 0
NoneFrom capture start = (p : ℕ) → start ≤ p → good_at capture p ≡ false
