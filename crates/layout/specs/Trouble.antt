-- What is first wrong with a word, or with values, under any layout (02, item 4): 'the cause and the lowest bit number where the trouble
-- begins; for a field that is its lowest bit. If there are several, the lowest bit wins.' Bits are counted from 1: the bit of weight 2 ^ n
-- is bit n + 1.
use Rattle.std.specs.Prelude.{Bool, true, false, not, List, [], ◌∷◌, ℕ, zero, suc, ◌+◌, ◌/◌, ◌%◌, ◌^◌, eqb, ltb, Result, Ok, Err}
use Rattle.bits.specs.Tests.{pick, both}
use Rattle.bits.specs.Numbers.{field_of}
use Rattle.layout.specs.Layout.{Field, pattern, spare, number, code, flag, signed, width_of, Values, write_as}
use Rattle.layout.specs.declared.Cause.{Cause}
use Rattle.layout.specs.declared.Cause.TheVariants.{Pattern, Spare, Unused, TooWide}
use Rattle.layout.specs.declared.Trouble.{Trouble}

-- what a check finds: nothing that is wrong, or the trouble
abbrev pub Checked : Type 0
Checked = Result (Unit {0}) Trouble

abbrev pub nothing : Checked
nothing = Ok tt

abbrev pub wrong : Cause → ℕ → Checked
wrong cause bit = Err (record { cause = cause; bit = bit })

abbrev pub is_nothing : Checked → Bool
is_nothing (Ok u) = true
is_nothing (Err t) = false

-- the first of two: the second counts only if there is no other
abbrev pub or_else : Checked → Checked → Checked
or_else (Ok u) t = t
or_else (Err t) u = Err t

-- ---- one field, whose lowest bit has weight 2 ^ at

-- on how many of their k lowest bits two numbers agree, up to the first at which they differ
unfoldable pub agreeing : ℕ → ℕ → ℕ → ℕ
agreeing zero n x = 0
agreeing (suc k) n x = pick (eqb (n % 2) (x % 2)) (suc (agreeing k (n / 2) (x / 2))) 0

-- the k bits n stand where x should: the lowest bit that is wrong
abbrev pub differing : Cause → ℕ → ℕ → ℕ → ℕ → Checked
differing c at k n x = pick (eqb n x) nothing (wrong c (at + agreeing k n x + 1))

-- n is none of the codes
abbrev pub none_of : List ℕ → ℕ → Bool
none_of [] n = true
none_of (x ∷ xs) n = both (not (eqb x n)) (none_of xs n)

-- what is wrong with the bits n, which are below 2 ^ width_of f: of a pattern or of spare bits the lowest wrong bit is told, of a code that
-- is not used the field's lowest bit
abbrev pub trouble_in : ℕ → Field → ℕ → Checked
trouble_in at (pattern k x) n = differing Pattern at k n x
trouble_in at (spare k) n = differing Spare at k n 0
trouble_in at (number k) n = nothing
trouble_in at (code k unused) n = pick (none_of unused n) nothing (wrong Unused (at + 1))
trouble_in at flag n = nothing
trouble_in at (signed k) n = nothing

-- what is wrong with the bits n of a value that is to stand there: a number that is too wide is told so, whatever its bits
abbrev pub misfit_in : ℕ → Field → ℕ → Checked
misfit_in at f n = pick (ltb n (2 ^ width_of f)) (trouble_in at f n) (wrong TooWide (at + 1))

-- ---- a layout, going up from weight 2 ^ at

-- what is first wrong with a word; bits above the layout, which no message has, are told as spare at the first of them
abbrev pub trouble : ℕ → List Field → ℕ → Checked
trouble at [] word = pick (eqb (word / 2 ^ at) 0) nothing (wrong Spare (at + 1))
trouble at (f ∷ fs) word = or_else (trouble_in at f (field_of word at (width_of f))) (trouble (at + width_of f) fs word)

-- what is first wrong with values
abbrev pub misfit : ℕ → (fs : List Field) → Values fs → Checked
misfit at [] vs = nothing
misfit at (f ∷ fs) vs = or_else (misfit_in at f (write_as f vs.0)) (misfit (at + width_of f) fs vs.1)

-- a word is as the layout has it, with no bit above
abbrev pub allowed : ℕ → List Field → ℕ → Bool
allowed at fs word = is_nothing (trouble at fs word)

-- values fit their fields
abbrev pub fits : (fs : List Field) → Values fs → Bool
fits fs vs = is_nothing (misfit 0 fs vs)
