-- The kinds, their labels and their layouts (001, Annex A, Appendix 5, and Annex C, Appendices 2 and 3; 01, 'Messages'; 02, items 1 and 4).
-- A layout begins above the label, at bit 7, and says of its bits what is a fixed pattern, what is spare (house rule: zero) and which codes
-- are not used.
use Rattle.std.specs.Prelude.{List, [], ◌∷◌, ℕ, ◌+◌, ◌-◌}
use Rattle.layout.specs.Layout.{Field, pattern, spare, number, code, flag, signed}
use Rattle.kind.specs.declared.Kind.{Kind}
use Rattle.kind.specs.declared.Kind.TheVariants.{Blank, S0, S3, S4, S4Plus, S5, S6, S8, S8Plus, S9}

-- the kinds in the order of their numbers
abbrev pub all_kinds : List Kind
all_kinds = Blank ∷ S0 ∷ S3 ∷ S4 ∷ S4Plus ∷ S5 ∷ S6 ∷ S8 ∷ S8Plus ∷ S9 ∷ []

abbrev pub number_of : Kind → ℕ
number_of Blank = 0
number_of S0 = 1
number_of S3 = 2
number_of S4 = 3
number_of S4Plus = 4
number_of S5 = 5
number_of S6 = 6
number_of S8 = 7
number_of S8Plus = 8
number_of S9 = 9

-- bits 1 to 6 (001, Annex A, Appendix 5, Table A5-1)
abbrev pub label_of : Kind → ℕ
label_of Blank = 0
label_of S0 = 46
label_of S3 = 19
label_of S4 = 17
label_of S4Plus = 49
label_of S5 = 18
label_of S6 = 20
label_of S8 = 21
label_of S8Plus = 53
label_of S9 = 5

-- ---- fields by their bits, as 001 gives them

-- the first and the last bit of a field, and what stands there, by its width
pub record Placed : Type 0 where
  pub first : ℕ
  pub last : ℕ
  pub is : ℕ → Field

infix 90 ◌to◌is◌
abbrev pub ◌to◌is◌ : ℕ → ℕ → (ℕ → Field) → Placed
first to last is f = record { first = first; last = last; is = f }

-- one bit, yes or no; two's complement, sign bit and all; a code without those that are not used; bits that always are this number
abbrev pub flag_at : ℕ → Placed
flag_at bit = bit to bit is (λ width. flag)

abbrev pub twos : ℕ → Field
twos width = signed (width - 1)

abbrev pub without : List ℕ → ℕ → Field
without unused width = code width unused

abbrev pub always : ℕ → ℕ → Field
always n width = pattern width n

-- the layout that they make; `fields_follow` in proofs/TableLaws.antt says that each begins behind the one before
abbrev pub fields_of : List Placed → List Field
fields_of [] = []
fields_of (p ∷ ps) = p.is (p.last + 1 - p.first) ∷ fields_of ps

-- Appendix 3, paragraph 1: all zeros
abbrev pub blank_bits : List Placed
blank_bits = 7 to 49 is always 0 ∷ []

-- paragraph 2: each group holds the label's six bits and then a zero
abbrev pub test_bits : List Placed
test_bits =
    7 to 7 is always 0
    ∷ 8 to 14 is always 46
    ∷ 15 to 21 is always 46
    ∷ 22 to 28 is always 46
    ∷ 29 to 35 is always 46
    ∷ 36 to 42 is always 46
    ∷ 43 to 49 is always 46
    ∷ []

-- paragraph 5: spare, Mode 3/A, request/reply, emergency, presence of Modes 1, 2 and 3/A, validation, spare, Mode 1, spare, Mode 2
abbrev pub iff_bits : List Placed
iff_bits =
    7 to 8 is spare
    ∷ 9 to 20 is number
    ∷ 21 to 23 is without (1 ∷ 3 ∷ 5 ∷ 6 ∷ 7 ∷ [])
    ∷ flag_at 24
    ∷ flag_at 25
    ∷ flag_at 26
    ∷ flag_at 27
    ∷ flag_at 28
    ∷ 29 to 30 is spare
    ∷ 31 to 35 is number
    ∷ 36 to 37 is spare
    ∷ 38 to 49 is number
    ∷ []

-- paragraphs 6 and 10: track number, quality, X, Y
abbrev pub track_bits : List Placed
track_bits = 7 to 21 is number ∷ 22 to 23 is number ∷ 24 to 36 is twos ∷ 37 to 49 is twos ∷ []

-- paragraph 7: altitude, strength, identification, special, simulated, drop, traffic class, X velocity, allocation, special, Y velocity
abbrev pub amplifying_bits : List Placed
amplifying_bits =
    7 to 15 is number
    ∷ 16 to 18 is without (1 ∷ [])
    ∷ 19 to 22 is number
    ∷ 23 to 24 is number
    ∷ flag_at 25
    ∷ flag_at 26
    ∷ 27 to 28 is number
    ∷ 29 to 36 is twos
    ∷ 37 to 38 is number
    ∷ 39 to 41 is number
    ∷ 42 to 49 is twos
    ∷ []

-- paragraph 8: acquisition, width, type, simulated, azimuth, site, sensor, number, elevation, age
abbrev pub strobe_bits : List Placed
strobe_bits =
    flag_at 7
    ∷ 8 to 10 is number
    ∷ 11 to 12 is number
    ∷ flag_at 13
    ∷ 14 to 25 is number
    ∷ 26 to 31 is number
    ∷ 32 to 34 is number
    ∷ 35 to 39 is number
    ∷ 40 to 43 is without (13 ∷ 14 ∷ 15 ∷ [])
    ∷ 44 to 49 is number
    ∷ []

-- paragraph 11: area number, spare, origin site, corner number, drop, spare, X, Y
abbrev pub corner_bits : List Placed
corner_bits =
    7 to 8 is number
    ∷ 9 to 10 is spare
    ∷ 11 to 16 is number
    ∷ 17 to 18 is number
    ∷ flag_at 19
    ∷ 20 to 23 is spare
    ∷ 24 to 36 is twos
    ∷ 37 to 49 is twos
    ∷ []

abbrev pub bits_of : Kind → List Placed
bits_of Blank = blank_bits
bits_of S0 = test_bits
bits_of S3 = iff_bits
bits_of S4 = track_bits
bits_of S4Plus = track_bits
bits_of S5 = amplifying_bits
bits_of S6 = strobe_bits
bits_of S8 = track_bits
bits_of S8Plus = track_bits
bits_of S9 = corner_bits

abbrev pub layout_of : Kind → List Field
layout_of k = fields_of (bits_of k)

-- those of the kinds that have a struct, by name
abbrev pub iff_layout : List Field
iff_layout = fields_of iff_bits

abbrev pub track_layout : List Field
track_layout = fields_of track_bits

abbrev pub amplifying_layout : List Field
amplifying_layout = fields_of amplifying_bits

abbrev pub strobe_layout : List Field
strobe_layout = fields_of strobe_bits

abbrev pub corner_layout : List Field
corner_layout = fields_of corner_bits

-- all 49 bits: the label and the fields above it
abbrev pub whole_of : Kind → List Field
whole_of k = pattern 6 (label_of k) ∷ layout_of k
