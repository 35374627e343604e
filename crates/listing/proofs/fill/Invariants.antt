-- The images so far are listed, and the octets behind them are left.
use Rattle.std.proofs.Common.{◌≡◌, ◌+◌, ◌*◌, ◌≤◌, length, drop}
use Rattle.std.specs.Iterator.Adapters.{enumerate_source, enumerate_count}
use Rattle.std.specs.Slice.Iter.{chunks_exact_rest, chunks_exact_size}
use Rattle.text.specs.Adds.{Adds}
use Rattle.listing.specs.Listing.{image_lines}
use Rattle.listing.proofs.fill.Given as goal

abbrev pub invariant-loop-k : goal.invariant-loop-k
invariant-loop-k l =
    let k = enumerate_count l.k-iterator in
    let images = enumerate_source l.k-iterator in
    record {
      within : k * 16 ≤ length l.log;
      size : chunks_exact_size images ≡ 16;
      left : chunks_exact_rest images ≡ drop (k * 16) l.log;
      upper : l.sheet.written ≤ l.initial.sheet.written + 20 * k;
      added : Adds l.initial.sheet (image_lines l.log k) l.sheet;
    }
