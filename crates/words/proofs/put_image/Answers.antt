-- `words::put_image` meets its contract. Assumes nothing.
use mathlib.Core.List.{List}
use mathlib.Core.Path.{◌≡◌, ap, ap₂, ◌∙◌}
use Prim.Native.Nat.{ℕ}
use lib.ListN.{set}
use Rattle.words.specs.Packing.{message_stored, check_octet}
use Rattle.words.proofs.PackingLaws.{stored, image_stored}
use Rattle.words.proofs.put_image.Goals as goal

pub returns : goal.returns
returns c =
    let second = c.put_message-2 in
    let first = c.put_message in
    let begin = c in
    let a = begin.args in
    let e : set second.new.image 15 0 ≡ stored a.image.now a.first a.second =
    ap (λ (l : List ℕ). set l 15 0) (second.ensures.0 ∙ ap (λ (l : List ℕ). message_stored l 2 a.second) first.ensures.0) in
    ap₂ (λ (l : List ℕ) (x : ℕ). set l 15 x) e (c.check_octet-check.ensures ∙ ap check_octet e) ∙ image_stored a.first a.second a.image.now begin.requires
