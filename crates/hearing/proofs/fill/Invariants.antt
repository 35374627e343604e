-- The receiver has been fed the octets passed, and the lines for them stand on the sheet.
use Rattle.std.proofs.Common.{◌≡◌, ◌*◌, ◌≤◌, length}
use Rattle.text.specs.Adds.{Adds}
use Rattle.octets.specs.Feeding.{fed_to}
use Rattle.hearing.specs.Ends.{ends_to}
use Rattle.hearing.specs.Hearing.{lines_of}
use Rattle.hearing.proofs.fill.Given as goal

abbrev pub invariant-loop-k : goal.invariant-loop-k
invariant-loop-k l = record {
  within : l.k ≤ length l.capture;
  fed : l.receiver ≡ fed_to l.capture l.k;
  added : Adds l.fn.sheet (lines_of (ends_to l.capture (8 * l.k))) l.sheet;
}
