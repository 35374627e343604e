-- `track::track_text` meets its contract. Assumes nothing.
use mathlib.Core.Path.{refl, ap}
use native.Mathlib.Omega.{arith}
use Rattle.std.specs.Prelude.{Err}
use borrow.Author.Tests.{lt-ltb, le-ltb, eq-eqb, ne_eqb}
use Rattle.track.specs.TrackText.{text_after, text_refusal}
use Rattle.track.proofs.track_text.Goals as goal

pub returns-then-text-ne5 : goal.returns-then-text-ne5
unfolding text_after text_refusal
returns-then-text-ne5 c = rw (ne_eqb _ _ c.if-text-ne5.true) (ap Err c.of.ensures, refl)

pub returns-then-number-gt32767 : goal.returns-then-number-gt32767
unfolding text_after text_refusal
returns-then-number-gt32767 c =
    rw (eq-eqb _ _ c.if-text-ne5.false, le-ltb _ 32768 c.if-number-gt32767.true) (ap Err c.of-then-number-gt32767.ensures, refl)

pub returns : goal.returns
unfolding text_after text_refusal
returns c =
    rw (eq-eqb _ _ c.if-text-ne5.false, lt-ltb c.args.number 32768 (omega (arith, c.if-number-gt32767.false))) (refl, c.put_text.ensures)
