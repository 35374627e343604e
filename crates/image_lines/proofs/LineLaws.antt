-- The law of an image's line. Assumes nothing.
use mathlib.Core.Path.{◌≡◌, ap}
use mathlib.Core.List.{List}
use Prim.Native.Nat.{ℕ, ◌+◌, ◌≤◌}
use native.Mathlib.Omega.{arith}
use lib.ListN.{length}
use Rattle.pair.specs.Opening.{Opened}
use Rattle.text.specs.Text.{row}
use Rattle.text.specs.Adds.{Adds}
use Rattle.text.specs.declared.Sheet.{Sheet}
use Rattle.image_lines.specs.ImageLines.{numbers_of, image_line}
use Rattle.text.proofs.AddsLaws.{adds_as}
use Rattle.text.proofs.TextLaws.{Below, row_short}

-- a line of at most four small numbers that are an image's is the image's line
pub image_put : (n : ℕ) (o : Opened) {s t : Sheet} {xs : List ℕ} → xs ≡ numbers_of n o → Below 10000 xs → length xs ≤ 4
    → Adds s (row xs) t → Adds s (image_line n o) t × (t.written ≤ s.written + 20)
unfolding image_line
image_put n o {s} {t} {xs} same small four a =
    (adds_as (ap row same) a, omega (arith, a.wrote.next, row_short 3 xs small))
