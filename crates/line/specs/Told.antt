-- DEMAND 3: what a fresh receiver answers, said of the decoded bits alone but for the state (01, 'From levels to a frame').
use Rattle.std.specs.Prelude.{Bool, false, List, [], ◌∷◌, ◌++◌, ℕ, ◌+◌, ◌-◌, leb, length, get_or, replicate}
use Rattle.bits.specs.Tests.{pick, both}
use Rattle.bits.specs.Octets.{octets_of}
use Rattle.refusal.specs.Refusals.{numbered, success, bad_level}
use Rattle.frame.specs.Frame.{good_frame}
use Rattle.line.specs.Levels.{refused, decoded}
use Rattle.line.specs.Machine.{run}
use Rattle.line.specs.declared.Handed.{Handed}
use Rattle.line.specs.declared.Heard.{Heard}

-- the last 128 of a run of bits, as a frame
abbrev pub last_frame : List ℕ → ℕ → ℕ
last_frame bits n = get_or bits (length bits - 128 + (n - 1)) 0

-- there are 128 bits, and the last 128 are a good frame
unfoldable pub ends_good : List ℕ → Bool
ends_good bits = both (leb 128 (length bits)) (good_frame (last_frame bits))

-- a frame is handed over exactly when the bits end in a good one, and then that one; else zero octets
abbrev pub handed_from : List ℕ → Handed
handed_from bits = record { frame = ends_good bits; image = pick (ends_good bits) (octets_of 16 (last_frame bits)) (replicate 16 0) }

-- the answer to a level that is taken, the last of the levels ls, which decode to the bits
abbrev pub told_of : List ℕ → List ℕ → Heard
told_of ls bits = record { receiver = run ls; refusal = numbered success; frame = (handed_from bits).frame; image = (handed_from bits).image }

-- the answer to a level that is neither 0 nor 1: 1, and no frame
abbrev pub told_refused : List ℕ → Heard
told_refused ls = record { receiver = run ls; refusal = numbered bad_level; frame = false; image = replicate 16 0 }

-- the answer to a level after the levels ls
abbrev pub told : List ℕ → ℕ → Heard
told ls level = pick (refused level) (told_refused ls) (told_of (ls ++ level ∷ []) (decoded (ls ++ level ∷ [])))

-- the wires swapped: 0 for 1 and 1 for 0; what is refused stays
abbrev pub swap : ℕ → ℕ
swap level = pick (refused level) level (1 - level)
