-- A number as decimal text, and a line of numbers (01, 'The listing program'). A text is a list of octets in ASCII.
use Prim.Native.Char.{code}
use Prim.Native.String.{String}
use Prim.Native.String as text
use Rattle.std.specs.Prelude.{ℕ, zero, suc, ◌+◌, ◌/◌, ◌%◌, List, [], ◌∷◌, ◌++◌, ltb}
use Rattle.bits.specs.Tests.{pick}

-- the octets of a text
abbrev pub octets : String → List ℕ
octets text.[] = []
octets (text.◌∷◌ c rest) = code c ∷ octets rest

-- the decimal digits of n, the most significant first, where f is at least their count
unfoldable pub dec_by : ℕ → ℕ → List ℕ
dec_by zero n = []
dec_by (suc f) n = pick (ltb n 10) ((48 + n) ∷ []) (dec_by f (n / 10) ++ ((48 + n % 10) ∷ []))

-- the decimal digits of n, with no zero in front: n has at most n + 1 digits
unfoldable pub dec : ℕ → List ℕ
dec n = dec_by (suc n) n

-- n's digits, and an octet after them
unfoldable pub dec_then : ℕ → ℕ → List ℕ
dec_then n b = dec n ++ (b ∷ [])

-- a line: the numbers of a list, a space between two, a line end after the last
unfoldable pub row : List ℕ → List ℕ
row [] = []
row (a ∷ []) = dec_then a 10
row (a ∷ b ∷ rest) = dec_then a 32 ++ row (b ∷ rest)

-- what a program writes whose input is too long (01, 'The listing program'; 02, item 5)
abbrev pub too_long : List ℕ
too_long = octets "TOO LONG\n"
