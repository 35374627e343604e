-- `image_lines::put_image` meets its contract. Assumes nothing.
use Rattle.std.proofs.Common.{◌≡◌, [], ◌∷◌, arith}
use Rattle.image_lines.specs.ImageLines.{numbers_of}
use Rattle.image_lines.proofs.LineLaws.{image_put}
use Rattle.image_lines.proofs.put_image.Goals as goal

pub returns-in-Ok : goal.returns-in-Ok
returns-in-Ok c =
    let a = c.args in
    let x = c.label in
    let y = c.label-in-Ok in
    let same : a.n ∷ 0 ∷ x.result ∷ y.result ∷ [] ≡ numbers_of a.n a.opened = rw (c.in-Ok.is, x.ensures.0, y.ensures.0) in
    let line = image_put a.n a.opened same (omega arith) (omega arith) c.put_row.ensures.added in
    record { added = line.0; upper_bound = line.1 }
