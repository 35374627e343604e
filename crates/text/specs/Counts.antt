-- What a count of octets at the start of a buffer says.
use Rattle.std.specs.Prelude.{ℕ, ◌≤◌, ◌≡◌, List, length, take, Result, Ok, Err}
use Rattle.text.specs.declared.FailedRead.{FailedRead}

-- `&xs[..n]` is in bounds and has n octets: the second part follows from the first, and spares a caller's `&xs[..n]` a proof file
abbrev pub IsPrefixLen : ℕ → List ℕ → Type 0
IsPrefixLen n xs = (n ≤ length xs) × (n ≡ length (take n xs))

-- how many octets were read, in the end or before the read that failed
abbrev pub count_of : Result ℕ FailedRead → ℕ
count_of (Ok count) = count
count_of (Err failed) = failed.count
