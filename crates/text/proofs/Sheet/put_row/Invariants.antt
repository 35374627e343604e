-- The numbers so far are put, a space behind each.
use Rattle.std.proofs.Common.{◌+◌, ◌*◌, ◌≤◌, take}
use Rattle.text.specs.Adds.{Adds}
use Rattle.text.proofs.TextLaws.{spaced}
use Rattle.text.proofs.Sheet.put_row.Given as goal

abbrev pub invariant-loop-number : goal.invariant-loop-number
invariant-loop-number l = record {
  upper : l.self.written ≤ l.fn.self.written + 21 * l.number-index;
  added : Adds l.fn.self (spaced (take l.number-index (take l.last l.numbers))) l.self;
}
