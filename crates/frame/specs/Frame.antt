-- What a good frame is (001, Annex A, Appendix 3, paragraphs 2 and 3; 01, 'From levels to a frame').
-- A frame is given by its bits: b n is frame bit n, for n from 1 to 128.
use Rattle.std.specs.Prelude.{Bool, List, [], ◌∷◌, ℕ, ◌+◌, ◌*◌, ◌%◌, ◌≤◌, eqb, length}
use Rattle.bits.specs.Tests.{both, every}
use Rattle.bits.specs.Numbers.{sum_of}
use Rattle.bits.specs.Octets.{bit_at}
use Rattle.refusal.specs.Refusals.{bad_length, bad_start, bad_mark, bad_check}
use Rattle.refusal.specs.Checks.{Check, check, first_refusal}
use Rattle.refusal.specs.declared.Refusal.{Refusal}

-- paragraph 2a: bits 1 to 8, the start group, are zeros
abbrev pub start_good : (ℕ → ℕ) → Bool
start_good b = every (λ i. eqb (b (i + 1)) 0) 8

-- paragraphs 2b and 2c: the marks, bits 9, 17, .. 121, are ones, and so is the final bit, 128
abbrev pub marks_good : (ℕ → ℕ) → Bool
marks_good b = both (every (λ g. eqb (b (8 * g + 9)) 1) 15) (eqb (b 128) 1)

-- paragraph 3: the ones among bit j of the fourteen data groups and check bit j
abbrev pub column_of : (ℕ → ℕ) → ℕ → ℕ
column_of b j = sum_of (λ g. b (8 * g + 9 + j)) 15

-- paragraph 3: check bits 1 to 6 each make their count odd; bit 7 of a group has no check bit
abbrev pub checks_good : (ℕ → ℕ) → Bool
checks_good b = every (λ i. eqb (column_of b (i + 1) % 2) 1) 6

-- a good frame meets all of this
unfoldable pub good_frame : (ℕ → ℕ) → Bool
good_frame b = both (start_good b) (both (marks_good b) (checks_good b))

-- 01's order, 3, 4, 5: what is wrong first, or success
abbrev pub frame_checks : (ℕ → ℕ) → List Check
frame_checks b = check (start_good b) bad_start ∷ check (marks_good b) bad_mark ∷ check (checks_good b) bad_check ∷ []

unfoldable pub frame_verdict : (ℕ → ℕ) → Refusal
frame_verdict b = first_refusal (frame_checks b)

-- house rule: an image is 16 octets, bit 1 in the most significant place of the first; 2, 3, 4, 5
abbrev pub image_checks : List ℕ → List Check
image_checks image = check (eqb (length image) 16) bad_length ∷ frame_checks (bit_at image)

unfoldable pub verdict_of : List ℕ → Refusal
verdict_of image = first_refusal (image_checks image)

-- the frame whose first bit has position p in a run of octets; the octets' first bit has position 0
abbrev pub frame_at : List ℕ → ℕ → ℕ → ℕ
frame_at octets p n = bit_at octets (p + n)

-- such a frame lies whole in the octets, of which a capture has at most 65,536
abbrev pub LiesWhole : List ℕ → ℕ → Type 0
LiesWhole octets p = (p + 128 ≤ 8 * length octets) × (length octets ≤ 65536)
