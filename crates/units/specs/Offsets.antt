-- Offsets in feet and their sum (01, 'The shift').
use Rattle.std.specs.Prelude.{Bool, true, List, [], ◌∷◌, ℤ, pos, negsuc, ◌+ℤ◌, Option, Some, None}
use Rattle.std.specs.Int.Signed.{le_z}
use Rattle.bits.specs.Tests.{pick, both}
use Rattle.units.specs.declared.Feet.{Feet}

-- from lo to hi, both included
unfoldable pub within : ℤ → ℤ → ℤ → Bool
within lo hi z = both (le_z lo z) (le_z z hi)

-- from -6,144,000 to 6,144,000 feet; negsuc n is -1 - n
abbrev pub is_offset : ℤ → Bool
is_offset z = within (negsuc 6143999) (pos 6144000) z

unfoldable pub are_offsets : List ℤ → Bool
are_offsets [] = true
are_offsets (x ∷ xs) = both (is_offset x) (are_offsets xs)

unfoldable pub sum_z : List ℤ → ℤ
sum_z [] = pos 0
sum_z (x ∷ xs) = x +ℤ sum_z xs

-- their sum, if each is an offset
unfoldable pub summed_of : List ℤ → Option Feet
summed_of xs = pick (are_offsets xs) (Some (record { 0 = sum_z xs })) None
