-- The receiver as it works: a window of the last 128 bits, one level at a time (01, 'Orders of checks': a state that goes in with one
-- level and comes back with the answer). Told.antt says what it must hand over.
use Rattle.std.specs.Prelude.{Bool, true, false, List, [], ◌∷◌, ◌++◌, ℕ, ◌+◌, ◌-◌, ◌*◌, ◌/◌, ◌%◌, ◌^◌, replicate}
use Rattle.bits.specs.Tests.{pick}
use Rattle.bits.specs.Octets.{bit_at}
use Rattle.refusal.specs.Refusals.{numbered, success, bad_level}
use Rattle.frame.specs.Frame.{good_frame}
use Rattle.line.specs.Levels.{refused, differ}
use Rattle.line.specs.declared.Window.{Window}
use Rattle.line.specs.declared.Receiver.{Receiver}
use Rattle.line.specs.declared.Heard.{Heard}
use Rattle.line.specs.declared.Handed.{Handed}

-- the window with one bit more, its oldest gone
abbrev pub pushed : Window → ℕ → Window
pushed w bit = record { older = w.older % 2 ^ 63 * 2 + w.newer / 2 ^ 63; newer = w.newer % 2 ^ 63 * 2 + bit }

-- the same with so many bits more, those of a number, the most significant first
abbrev pub pushed_by : Window → ℕ → ℕ → Window
pushed_by w bits count =
    record {
      older = w.older % 2 ^ (64 - count) * 2 ^ count + w.newer / 2 ^ (64 - count);
      newer = w.newer % 2 ^ (64 - count) * 2 ^ count + bits;
    }

-- the eight octets of a number, the most significant first; the sixteen of a window
abbrev pub eight_of : ℕ → List ℕ
eight_of n =
    n / 2 ^ 56 % 256 ∷ n / 2 ^ 48 % 256 ∷ n / 2 ^ 40 % 256 ∷ n / 2 ^ 32 % 256
    ∷ n / 2 ^ 24 % 256 ∷ n / 2 ^ 16 % 256 ∷ n / 2 ^ 8 % 256 ∷ n % 256 ∷ []

abbrev pub window_image : Window → List ℕ
window_image w = eight_of w.older ++ eight_of w.newer

abbrev pub no_image : List ℕ
no_image = replicate 16 0

-- whether a window is a good frame, and what it hands over: its octets if it is one, else zero octets
unfoldable pub holds_frame : Window → Bool
holds_frame w = good_frame (bit_at (window_image w))

abbrev pub handed_of : Window → Handed
handed_of w = record { frame = holds_frame w; image = pick (holds_frame w) (window_image w) no_image }

abbrev pub nothing_handed : Handed
nothing_handed = record { frame = false; image = no_image }

-- an idle line (001, Annex A, Appendix 3, paragraph 5): all ones, in which no start group begins
abbrev pub idle_window : Window
idle_window = record { older = 2 ^ 64 - 1; newer = 2 ^ 64 - 1 }

-- a receiver that has had no level yet, as after an idle line
abbrev pub fresh_of : Receiver
fresh_of = record { started = false; last = 0; window = idle_window }

-- the receiver after a level that is 0 or 1; the first gives no bit
abbrev pub accepted : Receiver → ℕ → Receiver
accepted s level =
    record {
      started = true;
      last = level;
      window = pick s.started (pushed s.window (differ s.last level)) s.window;
    }

-- an answer: the state to go on with, a number, and what is handed over
abbrev pub answer_with : Receiver → ℕ → Handed → Heard
answer_with s number handed = record { receiver = s; refusal = numbered number; frame = handed.frame; image = handed.image }

-- a level that is taken: what the window then hands over
abbrev pub answer_of : Receiver → Heard
answer_of s = answer_with s success (handed_of s.window)

-- a refusal hands back the state that it was given, and hands over nothing
abbrev pub refused_by : Receiver → Heard
refused_by s = answer_with s bad_level nothing_handed

abbrev pub heard_of : Receiver → ℕ → Heard
heard_of s level = pick (refused level) (refused_by s) (answer_of (accepted s level))

-- a receiver after a run of levels
abbrev pub run_from : Receiver → List ℕ → Receiver
run_from s [] = s
run_from s (l ∷ ls) = run_from (heard_of s l).receiver ls

abbrev pub run : List ℕ → Receiver
run ls = run_from fresh_of ls
