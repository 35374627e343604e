-- `track::letter_code` meets its contract. Assumes nothing.
use mathlib.Core.Path.{◌∙◌}
use Rattle.std.proofs.Common.{rules, tests, eqb}
use Rattle.std.proofs.lemmas.Iterator.{YieldsList-from_slice}
use Rattle.std.proofs.lemmas.Iterator.Search.{position_from_yields_List}
use Rattle.track.specs.TrackText.{letters}
use Rattle.track.proofs.TextLaws.{place_if}
use Rattle.track.proofs.letter_code.Goals as goal

pub returns-in_err-code : goal.returns-in_err-code
returns-in_err-code c =
    let x = c.args.x in
    c.from_residual.ensures
    ∙ position_from_yields_List (λ y. eqb x y) _ _ _ c.in_err-code.ensures.ran (YieldsList-from_slice letters cc)
    (λ y b q k. search (rules, tests))
    ∙ place_if letters x
