-- `image_lines::put_refusal` meets its contract. Assumes nothing.
use Rattle.std.specs.Prelude.{Err}
use Rattle.std.proofs.Common.{◌≡◌, [], ◌∷◌, true, false, arith, sym, ◌∙◌}
use Rattle.image_lines.specs.ImageLines.{has_bit, numbers_of}
use Rattle.image_lines.proofs.LineLaws.{image_put}
use Rattle.image_lines.proofs.put_refusal.Goals as goal

pub returns-then-has_bit : goal.returns-then-has_bit
returns-then-has_bit c =
    let a = c.args in
    let with_bit : has_bit a.r.number ≡ true = sym c.has_bit.ensures ∙ c.if-has_bit.true in
    let same : a.n ∷ c.from-number.result ∷ c.from-place.result ∷ c.from.result ∷ [] ≡ numbers_of a.n (Err a.r)
    = rw (c.from-number.ensures, c.from-place.ensures, c.from.ensures, with_bit) in
    let line = image_put a.n (Err a.r) same (omega arith) (omega arith) c.put_row.ensures.added in
    record { added = line.0; upper_bound = line.1 }

pub returns-else-has_bit : goal.returns-else-has_bit
returns-else-has_bit c =
    let a = c.args in
    let no_bit : has_bit a.r.number ≡ false = sym c.has_bit.ensures ∙ c.if-has_bit.false in
    let same : a.n ∷ c.from-number.result ∷ c.from-place.result ∷ [] ≡ numbers_of a.n (Err a.r)
    = rw (c.from-number.ensures, c.from-place.ensures, no_bit) in
    let line = image_put a.n (Err a.r) same (omega arith) (omega arith) c.put_row-else-has_bit.ensures.added in
    record { added = line.0; upper_bound = line.1 }
