-- `text::Sheet::put_number` meets its contract. Assumes nothing.
use Rattle.std.proofs.Common.{length, arith, ap, ◌∙◌}
use Rattle.text.proofs.AddsLaws.{adds_as, adds_adds}
use Rattle.text.proofs.TextLaws.{decimal_is_dec, decimal_short, dec_before}
use Rattle.text.proofs.Sheet.put_number.Goals as goal

pub put-requires : goal.put-requires
put-requires c = omega (arith, ap length c.as_bytes.ensures.value, ap length c.format.ensures.text, decimal_short c.args.n c.ranges.n.fits)

pub returns-clause-added : goal.returns-clause-added
returns-clause-added c =
    let a = c.args in
    let same = c.as_bytes.ensures.value ∙ c.format.ensures.text ∙ decimal_is_dec a.n c.ranges.n.fits in
    adds_as (dec_before a.n a.then) (adds_adds (adds_as same c.put.ensures) c.put-2.ensures)
