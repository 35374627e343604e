-- A layout is data: a list of fields, the first at the lowest bits of a word. Split and join go by any layout.
use Rattle.std.specs.Prelude.{Bool, List, [], ◌∷◌, ℕ, ◌+◌, ◌*◌, ◌^◌, eqb, ltb, ℤ}
use Rattle.std.specs.Int.Signed.{mag}
use Rattle.bits.specs.Tests.{pick}
use Rattle.bits.specs.Numbers.{bit, field_of}
use Rattle.bits.specs.Twos.{signed_of, unsigned_of}

pub data Field : Type 0 where
  -- this many bits that always are this number
  pattern : ℕ → ℕ → Field
  -- this many bits that have no use, and are zero
  spare : ℕ → Field
  -- any number of this many bits
  number : ℕ → Field
  -- a number of this many bits that is none of these codes
  code : ℕ → List ℕ → Field
  -- one bit, as yes or no
  flag : Field
  -- two's complement: a sign bit above this many bits
  signed : ℕ → Field

abbrev pub width_of : Field → ℕ
width_of (pattern k x) = k
width_of (spare k) = k
width_of (number k) = k
width_of (code k unused) = k
width_of flag = 1
width_of (signed k) = k + 1

-- what stands in a field, and in each field of a layout
abbrev pub Value : Field → Type 0
Value (pattern k x) = Unit {0}
Value (spare k) = Unit {0}
Value (number k) = ℕ
Value (code k unused) = ℕ
Value flag = Bool
Value (signed k) = ℤ

abbrev pub Values : List Field → Type 0
Values [] = Unit {0}
Values (f ∷ fs) = Value f × Values fs

-- the value of a field's bits
abbrev pub read_as : (f : Field) → ℕ → Value f
read_as (pattern k x) n = tt
read_as (spare k) n = tt
read_as (number k) n = n
read_as (code k unused) n = n
read_as flag n = eqb n 1
read_as (signed k) n = signed_of (2 ^ k) n

-- the bits of a value; of a signed number out of range, a number that is too wide
abbrev pub write_as : (f : Field) → Value f → ℕ
write_as (pattern k x) v = x
write_as (spare k) v = 0
write_as (number k) v = v
write_as (code k unused) v = v
write_as flag v = bit v
write_as (signed k) v = pick (ltb (mag v) (2 ^ k)) (unsigned_of (2 ^ k) v) (2 ^ (k + 1))

abbrev pub split : ℕ → (fs : List Field) → ℕ → Values fs
split at [] word = tt
split at (f ∷ fs) word = (read_as f (field_of word at (width_of f)), split (at + width_of f) fs word)

abbrev pub join : ℕ → (fs : List Field) → Values fs → ℕ
join at [] vs = 0
join at (f ∷ fs) vs = write_as f vs.0 * 2 ^ at + join (at + width_of f) fs vs.1
