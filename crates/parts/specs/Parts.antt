-- The parts of a line, one more than it has spaces.
use Rattle.std.specs.Prelude.{Bool, true, false, ◌==◌, ◌≡◌, ℕ, ℤ, pos, List, [], ◌∷◌, Option, None, Some, Result, Ok, drop}
use Rattle.std.specs.Fmt.{signed_decimal}
use Rattle.std.specs.List.{slice_split, position_or_len}
use Rattle.std.specs.Str.{bytes_eq}
use Rattle.std.specs.Borrow.{Bor}
use Rattle.parts.specs.declared.Parts.{Parts}

-- 32 is the space
abbrev pub is_space : ℕ → Bool
is_space c = c == 32

-- the parts of a line
abbrev pub parts_of : List ℕ → List (List ℕ)
parts_of line = slice_split is_space line

-- the parts of what is left of a line
abbrev pub parts_in : Option (Bor (List ℕ)) → List (List ℕ)
parts_in None = []
parts_in (Some left) = parts_of left.now

-- the parts of a line that are not taken yet
abbrev pub parts_left : Parts → List (List ℕ)
parts_left parts = parts_in parts.left

-- how many parts come before a word, or how many there are
abbrev pub place_of : List ℕ → List (List ℕ) → ℕ
place_of word parts = position_or_len (λ part. bytes_eq part word) parts

-- the parts behind the first
abbrev pub behind : List (List ℕ) → List (List ℕ)
behind parts = drop 1 parts

-- a text is a number as it would be told, and t is what a type makes of the number
pub record Says {T E : Type 0} (makes : ℤ → Result T E → Type 0) (text : List ℕ) (t : T) : Type 0 where
  pub number : ℤ
  pub told : text ≡ signed_decimal number
  pub made : makes number (Ok t)

-- a text is a word where there is no value, else it says the value
abbrev pub SaysOr : {T E : Type 0} → List ℕ → (ℤ → Result T E → Type 0) → List ℕ → Option T → Type 0
SaysOr word makes text None = text ≡ word
SaysOr word makes text (Some t) = Says makes text t

-- 0 or 1
abbrev pub flag_of : Bool → ℤ
flag_of false = pos 0
flag_of true = pos 1

-- the first of some parts is taken, P holds of it, and the others are left
abbrev pub Takes : (List ℕ → Type 0) → List (List ℕ) → List (List ℕ) → Type 0
Takes P [] left = ⊥
Takes P (part ∷ parts) left = P part × (left ≡ parts)
