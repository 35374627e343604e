-- A message with the codes of its absent modes zeroed (02, item 2; 001, Annex C, Appendix 3, paragraph 5): by bit numbers, and by no
-- reading or writing of messages. A message is given by its bits: b i is message bit i, for i from 1 to 49.
use Rattle.std.specs.Prelude.{◌≡◌, Bool, true, false, ℕ, ◌+◌, ◌≤◌, eqb}
use Rattle.bits.specs.Tests.{pick, both, is_between}
use Rattle.bits.specs.Numbers.{num_of}

-- paragraphs 5.3, 5.9, 5.11 and 5.6: the presence bit of the mode in whose code bit i stands, 27 of Mode 3/A, 25 of Mode 1, 26 of Mode 2; 0
-- where it stands in none
abbrev pub presence_bit : ℕ → ℕ
presence_bit i =
    pick (is_between 9 20 i) 27
    (pick (is_between 31 35 i) 25
    (pick (is_between 38 49 i) 26 0))

-- paragraph 5.1: bits 1 to 6 are the label of S.3
abbrev pub is_iff : (ℕ → ℕ) → Bool
is_iff b = eqb (num_of (λ i. b (i + 1)) 6) 19

-- there is a mode with this presence bit, and it is absent: the bit is zero
abbrev pub is_absent : (ℕ → ℕ) → ℕ → Bool
is_absent b presence = pick (eqb presence 0) false (eqb (b presence) 0)

-- bit i stands in the code of an absent mode of an S.3
abbrev pub is_unread : (ℕ → ℕ) → ℕ → Bool
is_unread b i = both (is_iff b) (is_absent b (presence_bit i))

-- such a bit is zeroed, and any other as it came
abbrev pub zeroed_bit : (ℕ → ℕ) → ℕ → ℕ
zeroed_bit b i = pick (is_unread b i) 0 (b i)

-- no digit is left in the code of an absent mode
abbrev pub NoDigits : (ℕ → ℕ) → Type 0
NoDigits b = (i : ℕ) → 1 ≤ i → i ≤ 49 → is_unread b i ≡ true → b i ≡ 0
