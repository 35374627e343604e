-- Where frames end in a capture (02, item 5): 'the bits read through its last', said of good frames, by positions and of the search.
use Rattle.std.specs.Prelude.{Bool, List, [], ◌∷◌, ◌++◌, ℕ, zero, suc, ◌+◌, ◌-◌, ◌*◌, leb, length, Result, Ok, Err}
use Rattle.bits.specs.Tests.{pick, both}
use Rattle.refusal.specs.declared.Refusal.{Refusal}
use Rattle.sieve.specs.Capture.{good_at}
use Rattle.capture.specs.Search.{search_of}
use Rattle.octets.specs.Feeding.{heard_at}
use Rattle.octets.specs.declared.HeardOctet.{HeardOctet}

-- with n bits read, a good frame has come to its end: it lies whole at position n - 128
unfoldable pub ends_after : List ℕ → ℕ → Bool
ends_after capture n = both (leb 128 n) (good_at capture (n - 128))

-- each number of 1 to n with which one has, rising
unfoldable pub ends_to : List ℕ → ℕ → List ℕ
ends_to capture zero = []
ends_to capture (suc n) = ends_to capture n ++ pick (ends_after capture (suc n)) (suc n ∷ []) []

-- those of a whole capture
abbrev pub ends_of : List ℕ → List ℕ
ends_of capture = ends_to capture (8 * length capture)

-- what the octet receiver says of octet k, from 0: the bits read through the last bit of a frame that ended in it; and of the first k
-- octets
abbrev pub end_in : ℕ → HeardOctet → List ℕ
end_in k h = pick h.frame ((8 * k + h.bit) ∷ []) []

unfoldable pub heard_to : List ℕ → ℕ → List ℕ
heard_to capture zero = []
heard_to capture (suc k) = heard_to capture k ++ end_in k (heard_at capture k)

-- the positions that repeated search gives, from a start on and then from each position found plus 1, in at most so many searches
abbrev pub and_on : Result ℕ Refusal → (ℕ → List ℕ) → List ℕ
and_on (Ok p) next = p ∷ next (p + 1)
and_on (Err r) next = []

unfoldable pub found_from : List ℕ → ℕ → ℕ → List ℕ
found_from capture zero start = []
found_from capture (suc searches) start = and_on (search_of capture start) (found_from capture searches)
