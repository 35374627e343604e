-- ONE WRONG LEVEL, and two (02, item 7; 001, Annex A, Appendix 3, paragraph 3: 'errors in transmission occur in pairs').
-- A frame as sent has 129 levels: number 0 is the level before it, and number n tells frame bit n.
use Rattle.std.specs.Prelude.{Bool, List, ◌∷◌, ℕ, ◌+◌, ◌-◌, ◌%◌, eqb, leb, get_or, set}
use Rattle.bits.specs.Tests.{pick, both, is_between}
use Rattle.refusal.specs.Refusals.{bad_start, bad_mark, bad_check}
use Rattle.line.specs.Levels.{decoded}
use Rattle.line.specs.Told.{swap}
use Rattle.line.specs.Sending.{send_levels}

-- levels with number i changed: 0 for 1 and 1 for 0
abbrev pub changed_at : ℕ → List ℕ → List ℕ
changed_at i levels = set levels i (swap (get_or levels i 0))

-- the level before, and the levels that `send` writes
abbrev pub on_the_line : List ℕ → ℕ → List ℕ → List ℕ
on_the_line image previous buffer = previous ∷ send_levels image previous buffer

-- the bits that they decode to with level i changed
abbrev pub wrong_bits : List ℕ → ℕ → List ℕ → ℕ → List ℕ
wrong_bits image previous buffer i = decoded (changed_at i (on_the_line image previous buffer))

-- and with levels i and k changed
abbrev pub two_wrong_bits : List ℕ → ℕ → List ℕ → ℕ → ℕ → List ℕ
two_wrong_bits image previous buffer i k = decoded (changed_at k (changed_at i (on_the_line image previous buffer)))

-- a frame with the bits turned that a test names
abbrev pub turned : (ℕ → Bool) → (ℕ → ℕ) → ℕ → ℕ
turned which b n = pick (which n) (1 - b n) (b n)

-- the bits beside level i: the one that it tells, and the next; a frame has no bit 0 and no bit 129
abbrev pub beside : ℕ → ℕ → Bool
beside i n = is_between i (i + 1) n

-- what is wrong first with a good frame when level i is changed: up to level 8 the start group; beside the final one, bit 128, or beside a
-- mark, bits 9, 17, .. 121, the marks; else a check column
abbrev pub refusal_at : ℕ → ℕ
refusal_at i = pick (leb i 8) bad_start (pick (leb 127 i) bad_mark (pick (leb (i % 8) 1) bad_mark bad_check))

-- two wrong levels pass together if each alone would be told by a check bit and both stand at the same place of their groups: the two
-- columns beside them have two turned bits each
abbrev pub pass_together : ℕ → ℕ → Bool
pass_together i k = both (eqb (refusal_at i) bad_check) (both (eqb (refusal_at k) bad_check) (eqb (i % 8) (k % 8)))
