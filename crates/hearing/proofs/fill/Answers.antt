-- `hearing::fill` meets its contract. Assumes nothing.
use Rattle.std.proofs.Common.{ℕ, ◌≡◌, ◌*◌, length, get_or, arith, ap, ◌∙◌}
use Rattle.text.proofs.AddsLaws.{adds_as}
use Rattle.octets.specs.Feeding.{heard_octet, heard_at}
use Rattle.octets.specs.declared.OctetReceiver.{OctetReceiver}
use Rattle.octets.specs.declared.HeardOctet.{HeardOctet}
use Rattle.hearing.specs.Ends.{ends_to}
use Rattle.hearing.specs.Hearing.{lines_of}
use Rattle.hearing.proofs.HearingLaws.{lines_few, lines_none, lines_more, fed_none, fed_more, heard, heard_long}
use Rattle.hearing.proofs.fill.Goals as goal

pub returns-then-capture-gt-MOST : goal.returns-then-capture-gt-MOST
returns-then-capture-gt-MOST c = heard_long c.args.capture.now c.if-capture-gt-MOST.true c.put.ensures

pub loop-k-init : goal.loop-k-init
loop-k-init c =
    let capture = c.args.capture.now in
    record { within = omega arith; fed = c.fresh-receiver.ensures ∙ fed_none capture; added = lines_none capture c.args.sheet.now }

pub put_end-requires : goal.put_end-requires
put_end-requires c =
    let few = lines_few c.args.capture.now c.loop-k.k (omega arith) in
    let i = c.loop-k.invariant.added in
    (omega (arith, i.wrote.next, i.same_length, few, c.requires), omega arith)

pub loop-k-preserved : goal.loop-k-preserved
loop-k-preserved c =
    let l = c.loop-k in
    let capture = c.args.capture.now in
    let k = l.k in
    let is : c.step-heard.result ≡ heard_at capture k =
    c.step-heard.ensures ∙ ap (λ (r : OctetReceiver). heard_octet r (get_or capture k 0)) l.invariant.fed in
    record {
      within = omega arith;
      fed = ap (λ (h : HeardOctet). h.receiver) is ∙ fed_more capture k;
      added = lines_more capture (λ i. omega (arith, c.type_inv.capture i)) k (omega arith) is l.invariant.added c.put_end.ensures;
    }

pub returns : goal.returns
returns c =
    let l = c.loop-k in
    let capture = c.args.capture.now in
    let done : l.k ≡ length capture = omega arith in
    heard capture (omega arith) (adds_as (ap (λ (k : ℕ). lines_of (ends_to capture (8 * k))) done) l.invariant.added)
