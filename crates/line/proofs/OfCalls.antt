-- DEMAND 3 of the calls themselves: of a receiver that `Receiver::fresh` answered and that `Receiver::step` was then fed any levels.
-- Assumes nothing.
use mathlib.Core.Path.{◌≡◌, refl, sym, ap, subst, ◌∙◌}
use mathlib.Core.List.{List, [], ◌∷◌, ◌++◌, append_assoc, append-nil}
use Prim.Native.Nat.{ℕ}
use contract.Lifetimes.{Lfts}
use Rattle.line.specs.Machine.{fresh_of, heard_of, run_from, run}
use Rattle.line.specs.Told.{told}
use Rattle.line.specs.declared.Receiver.{Receiver}
use Rattle.line.specs.declared.Heard.{Heard}
use Rattle.line.proofs.Holding.{run_snoc}
use Rattle.line.proofs.Demand3.{demand3}
use Rattle.line.proofs.Receiver.fresh.Reads as fresh
use Rattle.line.proofs.Receiver.step.Reads as step

-- s is what `fresh` answered and `step` then gave back, fed the levels one after the other: each as its contract alone says
pub data Fed : List ℕ → Receiver → Type 0 where
  begun : (κs : Lfts 0) (a : _) (e : _) (s : Receiver) → fresh.Post κs a s e → Fed [] s
  fed : (κs : Lfts 0) (e : _) (ls : List ℕ) (s : Receiver) (l : ℕ) (h : Heard) → Fed ls s → step.Post κs (s, (l, tt)) h e → Fed (ls ++ l ∷ []) h.receiver

-- then it is the fresh receiver after these levels
pub fed_run : {ls : List ℕ} {s : Receiver} → Fed ls s → s ≡ run ls
fed_run (begun κs a e s p) = p
fed_run (fed κs e ls s l h f p) = ap (λ (h : Heard). h.receiver) p ∙ ap (λ (s : Receiver). (heard_of s l).receiver) (fed_run f) ∙ sym (run_snoc fresh_of ls l)

-- and `step` answers one level more as that receiver does
pub next_heard : {ls : List ℕ} {s : Receiver} {h : Heard} (l : ℕ) → Fed ls s → h ≡ heard_of s l → h ≡ heard_of (run ls) l
next_heard l f p = p ∙ ap (λ (s : Receiver). heard_of s l) (fed_run f)

-- so whatever it was fed, `step` answers the next level as the decoded bits say
pub demand3_of_calls : {ls : List ℕ} {s : Receiver} → Fed ls s → (κs : Lfts 0) (e : _) (l : ℕ) (h : Heard) → step.Post κs (s, (l, tt)) h e → h ≡ told ls l
demand3_of_calls {ls} f κs e l h p = next_heard l f p ∙ demand3 ls l

fed_more : (ms ls : List ℕ) (s : Receiver) → Fed ms s → Fed (ms ++ ls) (run_from s ls)
fed_more ms [] s f = subst (λ (ks : List ℕ). Fed ks s) (sym (append-nil ms)) f
fed_more ms (l ∷ ls) s f =
    subst (λ (ks : List ℕ). Fed ks (run_from (heard_of s l).receiver ls)) (append_assoc ms (l ∷ []) ls)
    (fed_more (ms ++ l ∷ []) ls (heard_of s l).receiver (fed _ (s, (l, tt)) ms s l (heard_of s l) f refl))

-- any levels can be fed, so this speaks of every run
pub fed_any : (ls : List ℕ) → Fed ls (run ls)
fed_any ls = fed_more [] ls fresh_of (begun _ _ _ fresh_of refl)
