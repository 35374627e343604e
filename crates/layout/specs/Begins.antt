-- Where troubles begin (02, item 4), said of every bit and without going up the layout; and what it means that the lowest bit wins.
use Rattle.std.specs.Prelude.{false, List, [], ◌∷◌, ◌⊎◌, ◌≡◌, ℕ, ◌+◌, ◌/◌, ◌%◌, ◌^◌, ◌≤◌, ◌<◌, Ok, Err}
use Rattle.bits.specs.Numbers.{field_of}
use Rattle.layout.specs.Layout.{Field, pattern, spare, number, code, flag, signed, width_of, Values, write_as}
use Rattle.layout.specs.Trouble.{Checked, none_of}
use Rattle.layout.specs.declared.Cause.{Cause}
use Rattle.layout.specs.declared.Cause.TheVariants.{Pattern, Spare, Unused, TooWide}

-- n stands from weight 2 ^ at on where x should, and bit b is wrong
abbrev pub Differs : Cause → ℕ → ℕ → ℕ → Cause → ℕ → Type 0
Differs d at n x c b = (i : ℕ) × (c ≡ d) × (b ≡ at + i + 1) × (n / 2 ^ i % 2 ≡ x / 2 ^ i % 2 → ⊥)

-- of the bits n in a field whose lowest bit has weight 2 ^ at, a trouble of cause c begins at bit b
abbrev pub BeginsIn : ℕ → Field → ℕ → Cause → ℕ → Type 0
BeginsIn at (pattern k x) n c b = Differs Pattern at n x c b
BeginsIn at (spare k) n c b = Differs Spare at n 0 c b
BeginsIn at (number k) n c b = ⊥
BeginsIn at (code k unused) n c b = (c ≡ Unused) × (b ≡ at + 1) × (none_of unused n ≡ false)
BeginsIn at flag n c b = ⊥
BeginsIn at (signed k) n c b = ⊥

-- of a word's bits from weight 2 ^ at on, a trouble begins at bit b: in one of the fields, or above them
abbrev pub Begins : ℕ → List Field → ℕ → Cause → ℕ → Type 0
Begins at [] word c b = (c ≡ Spare) × (b ≡ at + 1) × (word / 2 ^ at ≡ 0 → ⊥)
Begins at (f ∷ fs) word c b = BeginsIn at f (field_of word at (width_of f)) c b ⊎ Begins (at + width_of f) fs word c b

-- a value's bits n are too wide for the field, or a trouble of those bits begins
abbrev pub MisfitsIn : ℕ → Field → ℕ → Cause → ℕ → Type 0
MisfitsIn at f n c b = ((c ≡ TooWide) × (b ≡ at + 1) × (2 ^ width_of f ≤ n)) ⊎ ((n < 2 ^ width_of f) × BeginsIn at f n c b)

-- of the values of a layout, a trouble begins at bit b
abbrev pub Misfits : ℕ → (fs : List Field) → Values fs → Cause → ℕ → Type 0
Misfits at [] vs c b = ⊥
Misfits at (f ∷ fs) vs c b = MisfitsIn at f (write_as f vs.0) c b ⊎ Misfits (at + width_of f) fs vs.1 c b

-- the first of the troubles P is told: nothing if there is none; else one of them, and no other begins at a lower bit
abbrev pub IsFirst : (Cause → ℕ → Type 0) → Checked → Type 0
IsFirst P (Ok u) = (c : Cause) (b : ℕ) → P c b → ⊥
IsFirst P (Err t) = P t.cause t.bit × ((d : Cause) (e : ℕ) → P d e → t.bit ≤ e)
