-- `closing::close` meets its contract: the checks in turn. Assumes nothing.
use Rattle.std.proofs.Common.{◌≡◌, rules, true, sym, ap, ap₂, ◌∙◌, Err, arith}
use Rattle.words.specs.Words.{image_of}
use Rattle.message.specs.Messages.{kind_of}
use Rattle.pair.specs.Pairs.{pair_of}
use Rattle.message.proofs.CodecLaws.{word_good}
use Rattle.pair.proofs.PairLaws.{close_length, close_pair, first_unwritten, second_unwritten, close_good, closed_refused, closed_written}
use Rattle.closing.proofs.close.Goals as goal
use Rattle.closing.proofs.close.Goals.{Else-not-is_pair}

paired : (c : Else-not-is_pair) → pair_of (kind_of c.args.first) (kind_of c.args.second) ≡ true
paired c = sym (c.is_pair.ensures ∙ ap₂ pair_of c.kind_of.ensures c.kind_of-2.ensures) ∙ c.if-not-is_pair.false

pub returns-then-image-ne16 : goal.returns-then-image-ne16
returns-then-image-ne16 c =
    let p = closed_refused _ _ _ _ (close_length _ _ _ c.if-image-ne16.true) (λ q. omega arith) in (ap Err c.of.ensures ∙ p.0, p.1)

pub returns-then-not-is_pair : goal.returns-then-not-is_pair
returns-then-not-is_pair c =
    let e = close_pair _ _ _ c.if-image-ne16.false (sym (c.is_pair.ensures ∙ ap₂ pair_of c.kind_of.ensures c.kind_of-2.ensures) ∙ c.if-not-is_pair.true) in
    let p = closed_refused _ _ _ _ e (λ q. omega arith) in
    (ap Err c.of-then-not-is_pair.ensures ∙ p.0, p.1)

pub returns-in_err-v : goal.returns-in_err-v
returns-in_err-v c =
    let r = c.in_err-v.field-0.0 in
    let u = first_unwritten _ _ _ c.if-image-ne16.false (paired (goal.at.returns-in_err-v c).Else-not-is_pair) r (sym c.encode.ensures ∙ c.in_err-v.was) in
    let p = closed_refused c.args.first c.args.second c.args.image.now r u.0 u.1 in
    search rules

pub returns-in_err-w : goal.returns-in_err-w
returns-in_err-w c =
    let r = c.in_err-w.field-0.0 in
    let one = word_good 1 _ _ (sym c.encode.ensures ∙ c.in_ok-v.was) in
    let u = second_unwritten _ _ _ c.if-image-ne16.false (paired (goal.at.returns-in_err-w c).Else-not-is_pair) one.0 r (sym c.encode-2.ensures ∙ c.in_err-w.was) in
    let p = closed_refused c.args.first c.args.second c.args.image.now r u.0 u.1 in
    search rules

pub returns : goal.returns
returns c =
    let one = word_good 1 _ _ (sym c.encode.ensures ∙ c.in_ok-v.was) in
    let other = word_good 2 _ _ (sym c.encode-2.ensures ∙ c.in_ok-w.was) in
    let e = close_good _ _ _ c.if-image-ne16.false (paired (goal.at.returns c).Else-not-is_pair) one.0 other.0 in
    let p = closed_written _ _ _ e in
    (p.0, c.put_image.ensures ∙ sym (ap₂ image_of one.1 other.1) ∙ p.1)
