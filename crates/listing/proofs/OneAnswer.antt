-- The contract of `listing::list_log` leaves one length and one buffer, and what it counts lies in the buffer. Both laws are over the
-- contract itself (`Post`, as in link1's OneAnswer.antt). Assumes nothing.
use mathlib.Core.Path.{sym, ◌∙◌}
use Prim.Native.Nat.{ℕ}
use contract.Lifetimes.{Lfts}
use Rattle.text.specs.Counts.{IsPrefixLen}
use Rattle.refusal.proofs.One.{OneLeaving}
use Rattle.listing.proofs.list_log.Reads as list-log

pub list_log_one : (κs : Lfts 2) (a : _) → OneLeaving (list-log.Post κs a) (λ e. e.1.0.now)
list_log_one κs a r s e f p q = (p.1.next ∙ sym q.1.next, p.1.text ∙ sym q.1.text)

pub list_log_counts : (κs : Lfts 2) (a : _) (r : ℕ) (e : _) → list-log.Post κs a r e → IsPrefixLen r e.1.0.now
list_log_counts κs a r e p = p.0
