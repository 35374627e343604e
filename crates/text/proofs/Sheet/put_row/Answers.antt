-- `text::Sheet::put_row` meets its contract. Assumes nothing.
use Rattle.std.proofs.Common.{ℕ, ◌≡◌, ◌-◌, List, length, take, arith, sym, ap, ◌∙◌}
use Rattle.std.proofs.Math.Seq.{take-length, length-take-le}
use Rattle.text.proofs.AddsLaws.{adds_none, adds_as, adds_adds}
use Rattle.text.proofs.TextLaws.{spaced, spaced_none, spaced_more, row_done}
use Rattle.text.proofs.Sheet.put_row.Goals as goal

-- all but the last number
front_long : (ns : List ℕ) → length (take (length ns - 1) ns) ≡ length ns - 1
front_long ns = length-take-le (length ns - 1) ns (omega arith)

pub loop-number-init : goal.loop-number-init
loop-number-init c =
    let a = c.args in
    record { upper = omega arith; added = adds_as (sym (spaced_none a.numbers.now)) (adds_none a.self.now) }

pub loop-number-preserved : goal.loop-number-preserved
loop-number-preserved c =
    let l = c.loop-number in
    let ns = c.args.numbers.now in
    let long = front_long ns in
    let more = adds_adds l.invariant.added c.put_number.ensures.added in
    record {
      upper = omega arith;
      added = adds_as (spaced_more (take (length ns - 1) ns) l.number-index c.loop-number-test.true) more;
    }

pub returns-clause-added : goal.returns-clause-added
returns-clause-added c =
    let l = c.loop-number in
    let ns = c.args.numbers.now in
    let long = front_long ns in
    let xs = take (length ns - 1) ns in
    let all : l.number-index ≡ length xs = omega arith in
    let front = adds_as (ap (λ (k : ℕ). spaced (take k xs)) all ∙ ap spaced (take-length xs)) l.invariant.added in
    adds_as (row_done ns (length ns - 1) (omega arith)) (adds_adds front c.put_number-2.ensures.added)
