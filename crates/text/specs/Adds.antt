-- What a function that puts a text on a sheet leaves (01, 'How much a contract has to say': the content of each lent buffer).
use Rattle.std.specs.Prelude.{ℕ, ◌≡◌, List, length}
use Rattle.text.specs.Wrote.{Wrote}
use Rattle.text.specs.declared.Sheet.{Sheet}

-- t is s with the text xs behind what was written, in the same buffer
pub record Adds (s : Sheet) (xs : List ℕ) (t : Sheet) : Type 0 where
  pub lent : t.out.ghost_name ≡ s.out.ghost_name
  pub same_length : length t.out.now ≡ length s.out.now
  pub wrote : Wrote s.out.now s.written xs t.out.now t.written
