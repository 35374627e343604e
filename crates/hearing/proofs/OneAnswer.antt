-- The contract of `hearing::hear_capture` leaves one length and one buffer, and what it counts lies in the buffer. Both laws are over the
-- contract itself (`Post`, as in link1's OneAnswer.antt). Assumes nothing.
use mathlib.Core.Path.{sym, ◌∙◌}
use Prim.Native.Nat.{ℕ}
use contract.Lifetimes.{Lfts}
use Rattle.text.specs.Counts.{IsPrefixLen}
use Rattle.refusal.proofs.One.{OneLeaving}
use Rattle.hearing.proofs.hear_capture.Reads as hear-capture

pub hear_capture_one : (κs : Lfts 2) (a : _) → OneLeaving (hear-capture.Post κs a) (λ e. e.1.0.now)
hear_capture_one κs a r s e f p q = (p.1.next ∙ sym q.1.next, p.1.text ∙ sym q.1.text)

pub hear_capture_counts : (κs : Lfts 2) (a : _) (r : ℕ) (e : _) → hear-capture.Post κs a r e → IsPrefixLen r e.1.0.now
hear_capture_counts κs a r e p = p.0
