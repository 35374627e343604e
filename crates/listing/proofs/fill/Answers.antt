-- `listing::fill` meets its contract. Assumes nothing.
use Rattle.std.proofs.Common.{arith, ap, ◌∙◌}
use Rattle.std.specs.Iterator.Adapters.{enumerate_count}
use Rattle.pair.specs.Opening.{open_of}
use Rattle.text.proofs.AddsLaws.{adds_as, adds_adds}
use Rattle.listing.proofs.ListingLaws.{image_next, images_done, lines_none, lines_more, listed, listed_long}
use Rattle.listing.proofs.fill.Goals as goal

pub returns-then-log-gt-MOST : goal.returns-then-log-gt-MOST
returns-then-log-gt-MOST c = listed_long c.args.log.now c.if-log-gt-MOST.true c.put.ensures

pub loop-k-init : goal.loop-k-init
loop-k-init c =
    let chunks = c.chunks_exact.ensures in
    let items = c.enumerate-k-items.ensures in
    rw (c.into_iter-k-iterator.ensures.into_iter_gives, items.count, items.source) record {
      within = omega arith;
      size = chunks.size;
      left = chunks.rest;
      upper = omega arith;
      added = lines_none c.args.log.now c.put-2.new.self;
    }

pub put_image-requires : goal.put_image-requires
put_image-requires c =
    let i = c.loop-k.invariant in
    let s = c.in-Some.ensures.steps in
    let inside = (image_next c.args.log.now (enumerate_count c.loop-k.k-iterator) i.left s.0.1.0 (s.0.1.1 ∙ i.size)).0 in
    (omega arith, omega arith)

pub loop-k-preserved : goal.loop-k-preserved
loop-k-preserved c =
    let i = c.loop-k.invariant in
    let s = c.in-Some.ensures.steps in
    let log = c.args.log.now in
    let k = enumerate_count c.loop-k.k-iterator in
    let next = image_next log k {image = c.in-Some.image.now} i.left s.0.1.0 (s.0.1.1 ∙ i.size) in
    rw s.2
    record {
      within = omega (arith, next.0);
      size = s.0.0 ∙ i.size;
      left = next.2;
      upper = omega arith;
      added = adds_as (lines_more log k s.1 (c.open.ensures ∙ ap open_of next.1)) (adds_adds i.added c.put_image.ensures.added);
    }

pub put_last-requires : goal.put_last-requires
put_last-requires c =
    let i = c.loop-k.invariant in
    omega arith

pub returns : goal.returns
returns c =
    let log = c.args.log.now in
    let i = c.loop-k.invariant in
    let s = c.in-None.ensures.steps in
    let done = images_done log (enumerate_count c.loop-k.k-iterator) i.within i.left (rw i.size at s.0.1.0) in
    listed log c.if-log-gt-MOST.false c.put-2.ensures (rw done at i.added) c.put_last.ensures.added
