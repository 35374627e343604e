-- The search of a capture (01, 'From levels to a frame' and 'Orders of checks'). Positions count from 0.
use Rattle.std.specs.Prelude.{List, [], ◌∷◌, ℕ, zero, suc, ◌-◌, ◌*◌, leb, length, Result, Ok, Err}
use Rattle.bits.specs.Tests.{pick}
use Rattle.refusal.specs.Refusals.{bad_length, out_of_range, no_frame}
use Rattle.refusal.specs.Checks.{Check, check, first_refusal, answered}
use Rattle.refusal.specs.declared.Refusal.{Refusal}
use Rattle.sieve.specs.Capture.{good_at}

-- the first of n positions from p on at which a good frame lies whole; p + n where there is none
unfoldable pub first_good : List ℕ → ℕ → ℕ → ℕ
first_good capture p zero = p
first_good capture p (suc n) = pick (good_at capture p) p (first_good capture (suc p) n)

-- the least position from the start on, as `found_least` in proofs/SearchLaws.antt says; the capture's end where there is none
abbrev pub least_from : List ℕ → ℕ → ℕ
least_from capture start = first_good capture start (8 * length capture - start)

-- 2, 9, 10
abbrev pub search_checks : List ℕ → ℕ → List Check
search_checks capture start =
    check (leb (length capture) 65536) bad_length
    ∷ check (leb start (8 * length capture)) out_of_range
    ∷ check (good_at capture (least_from capture start)) no_frame
    ∷ []

unfoldable pub search_refusal : List ℕ → ℕ → Refusal
search_refusal capture start = first_refusal (search_checks capture start)

-- what a search answers
unfoldable pub search_of : List ℕ → ℕ → Result ℕ Refusal
search_of capture start = answered (search_refusal capture start) (least_from capture start)

-- the position in an answer: 0 where there is none
abbrev pub position_found : Result ℕ Refusal → ℕ
position_found (Ok p) = p
position_found (Err r) = 0
