-- `track::number_of` meets its contract. Assumes nothing.
use mathlib.Core.Path.{◌∙◌}
use lib.Dec.{lit<}
use Rattle.track.proofs.TextLaws.{no_number, number_is}
use Rattle.track.proofs.number_of.Goals as goal

pub returns-in_err-letter_code : goal.returns-in_err-letter_code
returns-in_err-letter_code c = c.from_residual.ensures ∙ no_number c.args.text.now 0 (lit< tt) c.in_err-letter_code.ensures

pub returns-in_err-letters : goal.returns-in_err-letters
returns-in_err-letters c = c.from_residual-in_err-letters.ensures ∙ no_number c.args.text.now 1 (lit< tt) c.in_err-letters.ensures

pub returns-in_err-digit_code : goal.returns-in_err-digit_code
returns-in_err-digit_code c = c.from_residual-in_err-digit_code.ensures ∙ no_number c.args.text.now 2 (lit< tt) c.in_err-digit_code.ensures

pub returns-in_err-digit_code-2 : goal.returns-in_err-digit_code-2
returns-in_err-digit_code-2 c =
    c.from_residual-in_err-digit_code-2.ensures ∙ no_number c.args.text.now 3 (lit< tt) c.in_err-digit_code-2.ensures

pub returns-in_err-digits : goal.returns-in_err-digits
returns-in_err-digits c = c.from_residual-in_err-digits.ensures ∙ no_number c.args.text.now 4 (lit< tt) c.in_err-digits.ensures

pub returns : goal.returns
returns c =
    number_is c.args.text.now _ _ _ _ _ c.in_ok-letter_code.ensures c.in_ok-letters.ensures c.in_ok-digit_code.ensures
    c.in_ok-digit_code-2.ensures c.in_ok-digits.ensures
