-- 01, 'Numbers a caller may get back', as 02, items 4 and 6, amend it: each number with its places and bits; and an order of checks on one
-- line, as 01 writes it.
use Rattle.std.specs.Prelude.{Bool, true, false, List, [], ◌∷◌, ℕ, eqb}
use Rattle.bits.specs.Tests.{pick, both, is_between}
use Rattle.refusal.specs.Checks.{Check, test, inside}
use Rattle.refusal.specs.declared.Refusal.{Refusal}

-- ---- the table

-- a number, its least and greatest place, its least and greatest bit
pub record Row : Type 0 where
  pub number : ℕ
  pub place_from : ℕ
  pub place_to : ℕ
  pub bit_from : ℕ
  pub bit_to : ℕ

-- one that is about the whole input; about that or one of so many lists, messages or results; about a bit above the label of message 1 or 2
abbrev pub whole : ℕ → Row
whole n = record { number = n; place_from = 0; place_to = 0; bit_from = 0; bit_to = 0 }

abbrev pub or_one_of : ℕ → ℕ → Row
or_one_of n many = record { number = n; place_from = 0; place_to = many; bit_from = 0; bit_to = 0 }

abbrev pub in_message : ℕ → Row
in_message n = record { number = n; place_from = 1; place_to = 2; bit_from = 7; bit_to = 49 }

-- success; a level; a length; the start group; a mark; a check bit; a label; a pair; a range; no frame; pattern, spare bit, unused code,
-- too wide
abbrev pub table : List Row
table =
    whole 0
    ∷ whole 1
    ∷ or_one_of 2 2
    ∷ whole 3
    ∷ whole 4
    ∷ whole 5
    ∷ or_one_of 6 2
    ∷ whole 7
    ∷ or_one_of 9 4
    ∷ whole 10
    ∷ in_message 12
    ∷ in_message 13
    ∷ in_message 14
    ∷ in_message 15
    ∷ []

-- a refusal has a row, and its place and bit are the row's
abbrev pub has_row : List Row → Refusal → Bool
has_row [] r = false
has_row (x ∷ xs) r =
    pick (eqb r.number x.number) (both (is_between x.place_from x.place_to r.place) (is_between x.bit_from x.bit_to r.bit)) (has_row xs r)

abbrev pub of_table : Refusal → Bool
of_table r = has_row table r

-- ---- an order of checks

-- what a check tells where it is not passed: one of the numbers from .. to, at a place
pub record Step : Type 0 where
  pub from : ℕ
  pub to : ℕ
  pub place : ℕ

infix 90 ◌at◌
abbrev pub ◌at◌ : ℕ → ℕ → Step
n at p = record { from = n; to = n; place = p }

infix 90 ◌to◌at◌
abbrev pub ◌to◌at◌ : ℕ → ℕ → ℕ → Step
n to m at p = record { from = n; to = m; place = p }

-- a check stands at a step: a test tells the step's number at its place; what is wrong inside a message has the numbers lo to hi
abbrev pub stands_at : ℕ → ℕ → Check → Step → Bool
stands_at lo hi (test passed r) s = both (eqb r.number s.from) (both (eqb r.number s.to) (eqb r.place s.place))
stands_at lo hi (inside place t) s = both (eqb s.from lo) (both (eqb s.to hi) (eqb place s.place))

-- the checks are those of the order, one by one
abbrev pub in_order : ℕ → ℕ → List Check → List Step → Bool
in_order lo hi [] [] = true
in_order lo hi [] (s ∷ ss) = false
in_order lo hi (c ∷ cs) [] = false
in_order lo hi (c ∷ cs) (s ∷ ss) = both (stands_at lo hi c s) (in_order lo hi cs ss)

-- the refusal is success, or one that a step of the order tells
abbrev pub is_told : Step → Refusal → Bool
is_told s r = both (is_between s.from s.to r.number) (eqb r.place s.place)

abbrev pub among : List Step → Refusal → Bool
among [] r = eqb r.number 0
among (s ∷ ss) r = pick (is_told s r) true (among ss r)
