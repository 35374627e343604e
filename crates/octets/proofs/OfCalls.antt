-- DEMAND 3 of the calls themselves: of a receiver that `OctetReceiver::fresh` answered and that `OctetReceiver::step` was then fed any
-- octets. Assumes nothing.
use mathlib.Core.Path.{◌≡◌, refl, sym, ap, ap₂, subst, ◌∙◌}
use mathlib.Core.List.{List, [], ◌∷◌, ◌++◌, append_assoc, append-nil}
use Prim.Native.Nat.{ℕ, zero, suc, ◌≤◌, ◌<◌}
use native.Mathlib.Nat.{add-zero}
use native.Mathlib.Omega.{arith}
use contract.Lifetimes.{Lfts}
use lib.ListN.{length, get_or, length-append, get_or-append}
use lib.Seq.{get_or-append-add}
use Rattle.bits.specs.Octets.{AreOctets}
use Rattle.octets.specs.Feeding.{heard_octet, fresh_octets, fed_to, heard_at}
use Rattle.octets.specs.ToldOctets.{told_octet}
use Rattle.octets.specs.declared.OctetReceiver.{OctetReceiver}
use Rattle.octets.specs.declared.HeardOctet.{HeardOctet}
use Rattle.octets.proofs.Demand3.{octets_demand3}
use Rattle.octets.proofs.OctetReceiver.fresh.Reads as fresh
use Rattle.octets.proofs.OctetReceiver.step.Reads as step

-- s is what `fresh` answered and `step` then gave back, fed the octets one after the other: each as its contract alone says
pub data FedOctets : List ℕ → OctetReceiver → Type 0 where
  begun : (κs : Lfts 0) (a : _) (e : _) (s : OctetReceiver) → fresh.Post κs a s e → FedOctets [] s
  fed : (κs : Lfts 0) (e : _) (octets : List ℕ) (s : OctetReceiver) (o : ℕ) (h : HeardOctet)
      → FedOctets octets s → step.Post κs (s, (o, tt)) h e → FedOctets (octets ++ o ∷ []) h.receiver

-- octets that come later change nothing
fed_before : (octets more : List ℕ) (k : ℕ) → k ≤ length octets → fed_to (octets ++ more) k ≡ fed_to octets k
unfolding fed_to
fed_before octets more zero h = refl
fed_before octets more (suc k) h =
    ap₂ (λ (s : OctetReceiver) (o : ℕ). (heard_octet s o).receiver) (fed_before octets more k (omega arith)) (get_or-append octets more 0 k h)

pub heard_before : (octets more : List ℕ) (k : ℕ) → k < length octets → heard_at (octets ++ more) k ≡ heard_at octets k
heard_before octets more k h = ap₂ heard_octet (fed_before octets more k (omega arith)) (get_or-append octets more 0 k h)

-- what `step` answers to one octet more
pub next_heard : (octets : List ℕ) (o : ℕ) {s : OctetReceiver} {h : HeardOctet}
    → s ≡ fed_to octets (length octets) → h ≡ heard_octet s o → h ≡ heard_at (octets ++ o ∷ []) (length octets)
next_heard octets o r p =
    let new : o ≡ get_or (octets ++ o ∷ []) (length octets) 0 =
    sym (get_or-append-add octets (o ∷ []) 0 0) ∙ ap (λ (k : ℕ). get_or (octets ++ o ∷ []) k 0) (add-zero (length octets)) in
    p ∙ ap₂ heard_octet (r ∙ sym (fed_before octets (o ∷ []) (length octets) (omega arith))) new

-- then it is the fresh receiver after these octets
pub fed_octets_run : {octets : List ℕ} {s : OctetReceiver} → FedOctets octets s → s ≡ fed_to octets (length octets)
unfolding fed_to
fed_octets_run (begun κs a e s p) = p
fed_octets_run (fed κs e octets s o h f p) =
    let one : suc (length octets) ≡ length (octets ++ o ∷ []) = omega (arith, length-append octets (o ∷ [])) in
    ap (λ (h : HeardOctet). h.receiver) (next_heard octets o (fed_octets_run f) p) ∙ ap (fed_to (octets ++ o ∷ [])) one

-- and whatever it was fed, `step` answers the next octet as the bits say
pub octets_demand3_of_calls : {octets : List ℕ} {s : OctetReceiver} → FedOctets octets s → (κs : Lfts 0) (e : _) (o : ℕ) (h : HeardOctet)
    → AreOctets (octets ++ o ∷ []) → step.Post κs (s, (o, tt)) h e → h ≡ told_octet (octets ++ o ∷ []) (length octets)
octets_demand3_of_calls {octets} f κs e o h small p =
    next_heard octets o (fed_octets_run f) p ∙ octets_demand3 (octets ++ o ∷ []) small (length octets)

fed_more : (octets more : List ℕ) (s : OctetReceiver) → FedOctets octets s → (t : OctetReceiver) × FedOctets (octets ++ more) t
fed_more octets [] s f = (s, subst (λ (os : List ℕ). FedOctets os s) (sym (append-nil octets)) f)
fed_more octets (o ∷ more) s f =
    let r = fed_more (octets ++ o ∷ []) more (heard_octet s o).receiver (fed _ (s, (o, tt)) octets s o (heard_octet s o) f refl) in
    (r.0, subst (λ (os : List ℕ). FedOctets os r.0) (append_assoc octets (o ∷ []) more) r.1)

-- any octets can be fed, so this speaks of every run
pub fed_octets_any : (octets : List ℕ) → FedOctets octets (fed_to octets (length octets))
fed_octets_any octets =
    let r = fed_more [] octets fresh_octets (begun _ _ _ fresh_octets refl) in
    subst (FedOctets octets) (fed_octets_run r.1) r.1
