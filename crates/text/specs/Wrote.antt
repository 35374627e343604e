-- What a function that puts a text into a lent buffer leaves there (01, 'How much a contract has to say': the content of each lent buffer).
use Rattle.std.specs.Prelude.{ℕ, ◌+◌, ◌≡◌, List, ◌++◌, length, take, drop}

-- d with the text xs from index at on
unfoldable pub pasted : List ℕ → ℕ → List ℕ → List ℕ
pasted d at xs = take at d ++ xs ++ drop (at + length xs) d

-- e is d with the text xs from index at on, and r is the index after it
pub record Wrote (d : List ℕ) (at : ℕ) (xs e : List ℕ) (r : ℕ) : Type 0 where
  pub next : r ≡ at + length xs
  pub text : e ≡ pasted d at xs
