-- A layout as the code's tables have it: for each field a width and a rule.
use Rattle.std.specs.Prelude.{not, List, [], ◌∷◌, ℕ, ◌+◌, ◌*◌, ◌/◌, ◌%◌, ◌^◌, eqb, ltb, Result, Ok, Err}
use Rattle.bits.specs.Tests.{pick}
use Rattle.bits.specs.Numbers.{bit, num_of, field_of}
use Rattle.layout.specs.Layout.{Field, pattern, spare, number, code, flag, signed, width_of, Values, write_as}
use Rattle.layout.specs.Trouble.{Checked, nothing, wrong, none_of, differing, or_else}
use Rattle.layout.specs.declared.Cause.TheVariants.{Pattern, Spare, Unused, TooWide}
use Rattle.layout.specs.declared.Trouble.{Trouble}
use Rattle.layout.specs.declared.Rule.{Rule}
use Rattle.layout.specs.declared.Rule.TheVariants as R
use Rattle.layout.specs.declared.Slot.{Slot}

-- a field's rule; of the codes that are not used, a one at weight 2 ^ n for each code n
abbrev pub rule_of : Field → Rule
rule_of (pattern k x) = R.Pattern x
rule_of (spare k) = R.Spare
rule_of (number k) = R.Free
rule_of (code k unused) = R.Without (num_of (λ n. bit (not (none_of unused n))) 16)
rule_of flag = R.Free
rule_of (signed k) = R.Free

-- what is wrong with the bits n of a field by its rule
abbrev pub rule_trouble : ℕ → Rule → ℕ → Checked
rule_trouble at R.Free n = nothing
rule_trouble at (R.Pattern x) n = differing Pattern at 64 n x
rule_trouble at R.Spare n = differing Spare at 64 n 0
rule_trouble at (R.Without unused) n = pick (eqb (unused / 2 ^ n % 2) 0) nothing (wrong Unused (at + 1))

-- what is wrong with a number for a field, by its width and its rule
abbrev pub rule_misfit : ℕ → Slot → ℕ → Checked
rule_misfit at s n = pick (ltb n (2 ^ s.0)) (rule_trouble at s.1 n) (wrong TooWide (at + 1))

-- each field as the code has it
abbrev pub slot_of : Field → Slot
slot_of f = record { 0 = width_of f; 1 = rule_of f }

abbrev pub slots_of : List Field → List Slot
slots_of [] = []
slots_of (f ∷ fs) = slot_of f ∷ slots_of fs

-- the values' bits, one number a field
abbrev pub raw_of : (fs : List Field) → Values fs → List ℕ
raw_of [] vs = []
raw_of (f ∷ fs) vs = write_as f vs.0 ∷ raw_of fs vs.1

-- how many bits there are
abbrev pub total : List Slot → ℕ
total [] = 0
total (s ∷ ss) = s.0 + total ss

-- what is first wrong with a word's bits from weight 2 ^ at on, by the rules
abbrev pub ruled : ℕ → List Slot → ℕ → Checked
ruled at [] word = pick (eqb (word / 2 ^ at) 0) nothing (wrong Spare (at + 1))
ruled at (s ∷ ss) word = or_else (rule_trouble at s.1 (field_of word at s.0)) (ruled (at + s.0) ss word)

-- what is first wrong with numbers, each of its width, by the rules
abbrev pub fitting : ℕ → List Slot → List ℕ → Checked
fitting at [] ns = nothing
fitting at (s ∷ ss) [] = nothing
fitting at (s ∷ ss) (n ∷ ns) = or_else (rule_misfit at s n) (fitting (at + s.0) ss ns)

-- the numbers side by side, from weight 2 ^ at on
abbrev pub sum_at : ℕ → List Slot → List ℕ → ℕ
sum_at at [] ns = 0
sum_at at (s ∷ ss) [] = 0
sum_at at (s ∷ ss) (n ∷ ns) = n * 2 ^ at + sum_at (at + s.0) ss ns

-- a word, or what is wrong
abbrev pub packed_if : Checked → ℕ → Result ℕ Trouble
packed_if (Ok u) word = Ok word
packed_if (Err t) word = Err t

-- a word with the numbers put above its `low` bits, if nothing is wrong with them
unfoldable pub packed_of : ℕ → ℕ → List Slot → List ℕ → Result ℕ Trouble
packed_of word low ss ns = packed_if (fitting low ss ns) (sum_at low ss ns + word)
