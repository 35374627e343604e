-- For each public call, two answers that meet its contract are equal, and so is what they leave in a lent buffer. Each line is over the
-- call's own contract: `Post κs a r e` says that the answer r, with e at the exit, meets it on the arguments a, whatever lifetimes κs
-- they have. Assumes nothing.
use mathlib.Core.Path.{◌≡◌, sym, ◌∙◌}
use mathlib.Core.List.{List}
use Prim.Native.Nat.{ℕ}
use contract.Lifetimes.{Lfts}
use Rattle.refusal.proofs.One.{One, OneLeaving}
use Rattle.refusal.proofs.Refusal.of.Reads as of
use Rattle.refusal.proofs.Refusal.at.Reads as at
use Rattle.refusal.proofs.Refusal.inside.Reads as inside
use Rattle.refusal.proofs.refusal_in.Reads as told
use Rattle.frame.proofs.verdict.Reads as verdict
use Rattle.line.proofs.Receiver.fresh.Reads as fresh
use Rattle.line.proofs.Receiver.step.Reads as step
use Rattle.sending.proofs.send.Reads as send
use Rattle.octets.proofs.OctetReceiver.fresh.Reads as fresh-octets
use Rattle.octets.proofs.OctetReceiver.step.Reads as step-octet
use Rattle.capture.proofs.search.Reads as search-call
use Rattle.kind.proofs.label.Reads as label
use Rattle.kind.proofs.kind_named.Reads as kind_named
use Rattle.message.proofs.kind_of.Reads as kind-of
use Rattle.track.proofs.track_text.Reads as track-text
use Rattle.track.proofs.track_number.Reads as track-number
use Rattle.opening.proofs.open.Reads as open-call
use Rattle.closing.proofs.close.Reads as close
use Rattle.units.proofs.altitude.Reads as altitude
use Rattle.relay.proofs.relay.Reads as relay

-- a contract that is an equation for the answer has one; so has one with an equation for what is left besides
one : {K R : Type 0} (A : K → Type 0) (E : (κs : K) → A κs → Type 0) (f : (κs : K) → A κs → R)
    → (κs : K) (a : A κs) (r s : R) (e g : E κs a) → r ≡ f κs a → s ≡ f κs a → r ≡ s
one A E f κs a r s e g p q = p ∙ sym q

leaving : {K R : Type 0} (A : K → Type 0) (E : (κs : K) → A κs → Type 0) (f : (κs : K) → A κs → R) (h : (κs : K) → A κs → List ℕ)
    (left : (κs : K) (a : A κs) → E κs a → List ℕ) → (κs : K) (a : A κs) (r s : R) (e g : E κs a)
    → (r ≡ f κs a) × (left κs a e ≡ h κs a) → (s ≡ f κs a) × (left κs a g ≡ h κs a) → (r ≡ s) × (left κs a e ≡ left κs a g)
leaving A E f h left κs a r s e g p q = (p.0 ∙ sym q.0, p.1 ∙ sym q.1)

pub one_answer :
    ((κs : Lfts 0) (a : _) → One (of.Post κs a))
    × ((κs : Lfts 0) (a : _) → One (at.Post κs a))
    × ((κs : Lfts 0) (a : _) → One (inside.Post κs a))
    × ((T : _) (laws : _) (copies : _) (clones : _) (dict : _) (κs : Lfts 1) (a : _) → One (told.Post T laws copies clones dict κs a))
    × ((κs : Lfts 1) (a : _) → One (verdict.Post κs a))
    × ((κs : Lfts 0) (a : _) → One (fresh.Post κs a))
    × ((κs : Lfts 0) (a : _) → One (step.Post κs a))
    × ((κs : Lfts 2) (a : _) → OneLeaving (send.Post κs a) (λ e. e.1.1.0.now))
    × ((κs : Lfts 0) (a : _) → One (fresh-octets.Post κs a))
    × ((κs : Lfts 0) (a : _) → One (step-octet.Post κs a))
    × ((κs : Lfts 1) (a : _) → One (search-call.Post κs a))
    × ((κs : Lfts 0) (a : _) → One (label.Post κs a))
    × ((κs : Lfts 0) (a : _) → One (kind_named.Post κs a))
    × ((κs : Lfts 0) (a : _) → One (kind-of.Post κs a))
    × ((κs : Lfts 1) (a : _) → OneLeaving (track-text.Post κs a) (λ e. e.1.0.now))
    × ((κs : Lfts 1) (a : _) → One (track-number.Post κs a))
    × ((κs : Lfts 1) (a : _) → One (open-call.Post κs a))
    × ((κs : Lfts 1) (a : _) → OneLeaving (close.Post κs a) (λ e. e.1.1.0.now))
    × ((κs : Lfts 0) (a : _) → One (altitude.Post κs a))
    × ((κs : Lfts 4) (a : _) → OneLeaving (relay.Post κs a) (λ e. e.1.1.1.0.now))
one_answer = (
  one _ _ _,
  one _ _ _,
  one _ _ _,
  λ T laws copies clones dict. one _ _ _,
  one _ _ _,
  one _ _ _,
  one _ _ _,
  leaving _ _ _ _ _,
  one _ _ _,
  one _ _ _,
  one _ _ _,
  one _ _ _,
  one _ _ _,
  one _ _ _,
  leaving _ _ _ _ _,
  one _ _ _,
  one _ _ _,
  leaving _ _ _ _ _,
  one _ _ _,
  leaving _ _ _ _ _,
)
