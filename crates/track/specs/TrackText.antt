-- Track number text (001, Annex C, Appendix 3, paragraph 6.2; 01, 'Messages'): two letters and three digits, three bits each,
-- the first character in bits 19-21 and the last in bits 7-9.
use Rattle.std.specs.Prelude.{◌≡◌, Bool, Option, Some, None, Result, Ok, Err, List, [], ◌∷◌, ℕ, suc, ◌+◌, ◌-◌, ◌*◌, ◌/◌, ◌%◌, eqb, leb, ltb, length, get_or}
use Rattle.bits.specs.Tests.{pick, both, every}
use Rattle.refusal.specs.Refusals.{bad_length, out_of_range}
use Rattle.refusal.specs.Checks.{Check, check, first_refusal, on_success, answered}
use Rattle.refusal.specs.declared.Refusal.{Refusal}

-- A E G H J K L M, for 0 to 7
abbrev pub letters : List ℕ
letters = 65 ∷ 69 ∷ 71 ∷ 72 ∷ 74 ∷ 75 ∷ 76 ∷ 77 ∷ []

abbrev pub letter_of : ℕ → ℕ
letter_of code = get_or letters code 0

abbrev pub digit_of : ℕ → ℕ
digit_of code = 48 + code

abbrev pub text_of : ℕ → List ℕ
text_of n = letter_of (n / 4096 % 8) ∷ letter_of (n / 512 % 8) ∷ digit_of (n / 64 % 8) ∷ digit_of (n / 8 % 8) ∷ digit_of (n % 8) ∷ []

-- the place of a character among the letters, from 0: 8 where it is none of them
abbrev pub place_in : List ℕ → ℕ → ℕ
place_in [] x = 0
place_in (y ∷ ys) x = pick (eqb x y) 0 (suc (place_in ys x))

abbrev pub letter_code : ℕ → ℕ
letter_code x = place_in letters x

abbrev pub digit_code : ℕ → ℕ
digit_code x = pick (both (leb 48 x) (leb x 55)) (x - 48) 8

-- the code of each character of a text
abbrev pub code_at : List ℕ → ℕ → ℕ
code_at text i = pick (ltb i 2) (letter_code (get_or text i 0)) (digit_code (get_or text i 0))

-- a code, if it is one: below 8
abbrev pub code_if : ℕ → Option ℕ
code_if code = pick (ltb code 8) (Some code) None

-- ---- number to text: 2, then 9

abbrev pub text_checks : ℕ → List ℕ → List Check
text_checks n buffer = check (eqb (length buffer) 5) bad_length ∷ check (ltb n 32768) out_of_range ∷ []

unfoldable pub text_refusal : ℕ → List ℕ → Refusal
text_refusal n buffer = first_refusal (text_checks n buffer)

-- what then stands in the buffer: the text, or on a refusal what stood there
unfoldable pub text_after : ℕ → List ℕ → List ℕ
text_after n buffer = on_success (text_refusal n buffer) (text_of n) buffer

-- the answer that comes back, and the buffer afterwards
abbrev pub Spelled : ℕ → List ℕ → Result (Unit {0}) Refusal → List ℕ → Type 0
Spelled n buffer answer after = (answer ≡ answered (text_refusal n buffer) tt) × (after ≡ text_after n buffer)

-- ---- text to number: 2, then 9

-- five characters, each with a code below 8
abbrev pub is_text : List ℕ → Bool
is_text text = every (λ i. ltb (code_at text i) 8) 5

abbrev pub text_number : List ℕ → ℕ
text_number text = code_at text 0 * 4096 + code_at text 1 * 512 + code_at text 2 * 64 + code_at text 3 * 8 + code_at text 4

-- the number of five characters, if they are a text
abbrev pub number_if : List ℕ → Option ℕ
number_if text = pick (is_text text) (Some (text_number text)) None

abbrev pub track_checks : List ℕ → List Check
track_checks text = check (eqb (length text) 5) bad_length ∷ check (is_text text) out_of_range ∷ []

unfoldable pub track_refusal : List ℕ → Refusal
track_refusal text = first_refusal (track_checks text)

-- what `track_number` answers
unfoldable pub tracked_of : List ℕ → Result ℕ Refusal
tracked_of text = answered (track_refusal text) (text_number text)

-- the track number of an answer: 0 where there is none
abbrev pub number_in : Result ℕ Refusal → ℕ
number_in (Ok n) = n
number_in (Err r) = 0
