-- `parts::Parts::before` meets its contract. Assumes nothing.
use Rattle.std.proofs.Common.{rules, ◌≡◌, refl, ℕ, Bool, true, false, cond, Some, None, IfOk}
use borrow.Author.Tests.{tests}
use Rattle.std.specs.Option.{ok_or}
use Rattle.std.specs.Str.{bytes_eq}
use Rattle.std.proofs.lemmas.Iterator.Search.{position_from_yields_List}
use Rattle.std.proofs.lemmas.Iterator.Splits.{YieldsList-from_slice_split}
use Rattle.parts.specs.Parts.{is_space}
use Rattle.parts.proofs.Parts.before.Goals as goal

-- what is answered of a place that was found
found_is : {E : Type 0} (e : E) (found : Bool) (n : ℕ) → IfOk (ok_or (cond found (Some n) None) e) (λ k. k ≡ n)
found_is e true n = refl
found_is e false n = tt

pub returns : goal.returns
returns c =
    let word = c.args.word.now in
    let left = c.in_ok-left.left.now in
    let cut = c.split.ensures in
    let found = position_from_yields_List (λ part. bytes_eq part word) _ _ c.position-place.result c.position-place.ensures.ran
    (YieldsList-from_slice_split _ is_space left cut.rest cut.done cut.closure (λ x b q k. search (rules, tests)))
    (λ x b q k. search (rules, tests)) in
    let whole : c.args.self.left ≡ Some c.in_ok-left.left = search rules in
    rw (c.ok_or-2.ensures.value, found, whole) (found_is _ _ _)
