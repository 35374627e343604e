-- 01, 'Orders of checks': each call has its checks in one order, the first that is not passed is told, and a refusal changes nothing. 02,
-- item 4: of a message the first trouble is told.
use Rattle.std.specs.Prelude.{Bool, List, [], ◌∷◌, ℕ, eqb, Result, Ok, Err}
use Rattle.bits.specs.Tests.{pick}
use Rattle.layout.specs.Trouble.{Checked, is_nothing}
use Rattle.refusal.specs.Refusals.{success, numbered, numbered_at, troubled}
use Rattle.refusal.specs.declared.Refusal.{Refusal}

pub data Check : Type 0 where
  -- whether a test is passed, and the refusal where it is not
  test : Bool → Refusal → Check
  -- what is first wrong inside message 1 or 2
  inside : ℕ → Checked → Check

-- a test of the whole input, and one of a message or an axis
abbrev pub check : Bool → ℕ → Check
check passed n = test passed (numbered n)

abbrev pub check_at : Bool → ℕ → ℕ → Check
check_at passed n place = test passed (numbered_at n place)

abbrev pub is_passed : Check → Bool
is_passed (test passed refusal) = passed
is_passed (inside place t) = is_nothing t

abbrev pub told_by : Check → Refusal
told_by (test passed refusal) = refusal
told_by (inside place t) = troubled place t

-- the refusal of the first check that is not passed, or success
abbrev pub first_refusal : List Check → Refusal
first_refusal [] = numbered success
first_refusal (c ∷ cs) = pick (is_passed c) (first_refusal cs) (told_by c)

-- what a success gives, else what a refusal leaves: the state, message or buffer that was handed in
abbrev pub on_success {ℓ} : {A : Type ℓ} → Refusal → A → A → A
on_success refusal new old = pick (eqb refusal.number success) new old

-- an answer: at number 0 the value, at any other the refusal, with its place and bit
abbrev pub answered : {A : Type 0} → Refusal → A → Result A Refusal
answered refusal value = on_success refusal (Ok value) (Err refusal)

-- 01's number and place of each case of an answer, and 02's bit
abbrev pub refusal_in : {A : Type 0} → Result A Refusal → Refusal
refusal_in (Ok value) = numbered success
refusal_in (Err refusal) = refusal
