-- 02, item 5: the whole of what the program `link1hear` writes for a capture.
use Rattle.std.specs.Prelude.{List, [], ◌∷◌, ◌++◌, ℕ, ltb, length}
use Rattle.bits.specs.Tests.{pick}
use Rattle.text.specs.Text.{row, too_long}
use Rattle.hearing.specs.Ends.{ends_of}

-- 'a line for each': a number each
unfoldable pub lines_of : List ℕ → List ℕ
lines_of [] = []
lines_of (n ∷ ns) = row (n ∷ []) ++ lines_of ns

-- 'a capture of at most 65,536 octets (more gives TOO LONG alone)', and 'a line for each frame: the bits read through its last'
unfoldable pub hearing_of : List ℕ → List ℕ
hearing_of capture = pick (ltb 65536 (length capture)) too_long (lines_of (ends_of capture))
