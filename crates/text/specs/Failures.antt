-- What a program says on standard error.
use Rattle.std.specs.Prelude.{ℕ, List, codes}
use Rattle.text.specs.declared.Failure.{Failure}
use Rattle.text.specs.declared.Failure.TheVariants.{Unread, Unwritten}

abbrev pub failure_text : Failure → List ℕ
failure_text Unread = codes "standard input cannot be read"
failure_text Unwritten = codes "standard output cannot be written"
