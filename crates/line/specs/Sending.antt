-- What is sent for an image (001, Annex A, Appendix 3, paragraph 4; 01, 'Orders of checks').
use Rattle.std.specs.Prelude.{◌≡◌, not, List, [], ◌∷◌, ℕ, ◌+◌, ◌-◌, eqb, length, Result}
use Rattle.bits.specs.Tests.{pick}
use Rattle.bits.specs.Numbers.{tab}
use Rattle.bits.specs.Octets.{bit_at}
use Rattle.refusal.specs.Refusals.{bad_level, bad_length, bad_start, bad_mark, bad_check}
use Rattle.refusal.specs.Checks.{Check, check, first_refusal, on_success, answered}
use Rattle.refusal.specs.declared.Refusal.{Refusal}
use Rattle.frame.specs.Frame.{start_good, marks_good, checks_good}
use Rattle.line.specs.Levels.{refused}

-- a one changes the level, a zero keeps it
abbrev pub next : ℕ → ℕ → ℕ
next level bit = pick (eqb bit 0) level (1 - level)

-- the levels that tell the bits, after a level
abbrev pub levels_after : ℕ → List ℕ → List ℕ
levels_after level [] = []
levels_after level (b ∷ bs) = next level b ∷ levels_after (next level b) bs

-- bits 1 to 128 of an image
abbrev pub image_bits : List ℕ → List ℕ
image_bits image = tab (λ i. bit_at image (i + 1)) 128

-- 2 image, 2 buffer, 1, 3, 4, 5
abbrev pub send_checks : List ℕ → ℕ → List ℕ → List Check
send_checks image previous buffer =
    check (eqb (length image) 16) bad_length
    ∷ check (eqb (length buffer) 128) bad_length
    ∷ check (not (refused previous)) bad_level
    ∷ check (start_good (bit_at image)) bad_start
    ∷ check (marks_good (bit_at image)) bad_mark
    ∷ check (checks_good (bit_at image)) bad_check
    ∷ []

unfoldable pub send_refusal : List ℕ → ℕ → List ℕ → Refusal
send_refusal image previous buffer = first_refusal (send_checks image previous buffer)

-- what then stands in the buffer: the levels, or on a refusal what stood there
unfoldable pub send_levels : List ℕ → ℕ → List ℕ → List ℕ
send_levels image previous buffer = on_success (send_refusal image previous buffer) (levels_after previous (image_bits image)) buffer

-- the answer, and the buffer afterwards
abbrev pub Sent : List ℕ → ℕ → List ℕ → Result (Unit {0}) Refusal → List ℕ → Type 0
Sent image previous buffer answer after =
    (answer ≡ answered (send_refusal image previous buffer) tt) × (after ≡ send_levels image previous buffer)
