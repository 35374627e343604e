-- 01, 'Numbers a caller may get back', and 02, items 4 and 6: a name for each number, 8 and 11 being no longer given; a number with its
-- place, and of what is wrong inside a message with the bit where it begins.
use Rattle.std.specs.Prelude.{ℕ, List, ◌++◌, Ok, Err, codes, decimal}
use Rattle.layout.specs.declared.Cause.{Cause}
use Rattle.layout.specs.declared.Cause.TheVariants.{Pattern, Spare, Unused, TooWide}
use Rattle.layout.specs.Trouble.{Checked}
use Rattle.refusal.specs.declared.Refusal.{Refusal}

-- success; a level that is neither 0 nor 1; a length; the start group; a mark or the final one; a check bit
abbrev pub success : ℕ
success = 0

abbrev pub bad_level : ℕ
bad_level = 1

abbrev pub bad_length : ℕ
bad_length = 2

abbrev pub bad_start : ℕ
bad_start = 3

abbrev pub bad_mark : ℕ
bad_mark = 4

abbrev pub bad_check : ℕ
bad_check = 5

-- an unknown label; a pair not in the table
abbrev pub unknown_label : ℕ
unknown_label = 6

abbrev pub bad_pair : ℕ
bad_pair = 7

-- a number or character out of range; no good frame
abbrev pub out_of_range : ℕ
out_of_range = 9

abbrev pub no_frame : ℕ
no_frame = 10

-- inside a message: a fixed pattern; a spare bit; a code that is not used; a number too wide for its field
abbrev pub bad_pattern : ℕ
bad_pattern = 12

abbrev pub spare_bit : ℕ
spare_bit = 13

abbrev pub unused_code : ℕ
unused_code = 14

abbrev pub too_wide : ℕ
too_wide = 15

-- a number about the whole input, and one about a message or an axis
abbrev pub numbered : ℕ → Refusal
numbered n = record { number = n; place = 0; bit = 0 }

abbrev pub numbered_at : ℕ → ℕ → Refusal
numbered_at n place = record { number = n; place = place; bit = 0 }

-- one about a bit of message 1 or 2
abbrev pub numbered_in : ℕ → ℕ → ℕ → Refusal
numbered_in n place bit = record { number = n; place = place; bit = bit }

-- what is wrong inside the message, by its cause
abbrev pub cause_number : Cause → ℕ
cause_number Pattern = bad_pattern
cause_number Spare = spare_bit
cause_number Unused = unused_code
cause_number TooWide = too_wide

abbrev pub inside_at : ℕ → Cause → ℕ → Refusal
inside_at place cause bit = numbered_in (cause_number cause) place bit

-- the same of a first trouble; success where nothing is wrong
abbrev pub troubled : ℕ → Checked → Refusal
troubled place (Ok u) = numbered success
troubled place (Err t) = inside_at place t.cause t.bit

-- a refusal as it displays itself: its three numbers in decimal digits, a space between two
abbrev pub refusal_text : Refusal → List ℕ
refusal_text r = decimal r.number ++ (codes " " ++ (decimal r.place ++ (codes " " ++ decimal r.bit)))
