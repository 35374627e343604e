-- DEMAND 3: a fresh receiver fed any run of levels hands over a frame at a level that is 0 or 1 exactly when the last 128 decoded bits are
-- a good frame, and then that frame; at any other level none. Each good frame is heard on its last bit, no two overlap, and swapping the
-- two wires changes nothing. Over the calls' own contracts: `Fed ls s` is a chain of `Receiver::fresh` and `Receiver::step`, fed the levels
-- ls one after the other (crates/line/proofs/OfCalls.antt); `Steps s l h` is one step more. Assumes nothing.
use mathlib.Core.Path.{◌≡◌, refl, sym, ap, ◌∙◌}
use mathlib.Core.Bool.{Bool, true, false, not}
use mathlib.Core.List.{List, [], ◌∷◌, ◌++◌, map}
use mathlib.Core.Logic.{◌↔◌}
use Prim.Native.Nat.{ℕ, suc, ◌+◌, ◌-◌, ◌*◌, ◌≤◌, ◌<◌}
use native.Mathlib.Omega.{arith}
use borrow.Author.Tests.{eqb-true, eq-eqb, ne_eqb, ltb-true, ltb-false, le-ltb, leb-true, le-leb, not-true}
use lib.Dec.{leb}
use lib.ListN.{length, get_or, replicate, length-append}
use Rattle.bits.specs.Tests.{pick, both}
use Rattle.bits.specs.Numbers.{tab}
use Rattle.bits.specs.Octets.{AreOctets, bit_at, octets_of}
use Rattle.refusal.specs.Refusals.{numbered}
use Rattle.refusal.specs.declared.Refusal.{Refusal}
use Rattle.frame.specs.Frame.{good_frame}
use Rattle.line.specs.Levels.{refused, bits_of, decoded}
use Rattle.line.specs.Machine.{accepted, answer_of, refused_by, heard_of, run}
use Rattle.line.specs.Told.{last_frame, ends_good, told, told_refused, told_of, swap}
use Rattle.line.specs.Sending.{send_checks, send_refusal}
use Rattle.line.specs.declared.Receiver.{Receiver}
use Rattle.line.specs.declared.Heard.{Heard}
use Rattle.octets.specs.Feeding.{fed_to, heard_at}
use Rattle.octets.specs.ToldOctets.{told_octet}
use Rattle.octets.specs.declared.OctetReceiver.{OctetReceiver}
use Rattle.octets.specs.declared.HeardOctet.{HeardOctet}
use Rattle.bits.proofs.TestLaws.{both_true, never_true, clash}
use Rattle.refusal.proofs.CheckLaws.{success_exactly}
use Rattle.frame.proofs.FrameLaws.{good_parts}
use Rattle.line.proofs.LevelLaws as levels
use Rattle.line.proofs.Demand3 as line
use Rattle.line.proofs.OfCalls.{Fed, demand3_of_calls}
use Rattle.line.proofs.OfCalls as line-calls
use Rattle.octets.proofs.Demand3 as octet
use Rattle.octets.proofs.OfCalls.{FedOctets, fed_octets_run, octets_demand3_of_calls}
use Rattle.octets.proofs.OfCalls as octet-calls
use Rattle.link1.proofs.Calls.{Steps, steps, stepped, Takes, takes, taken, Sends, sent}

-- ---- levels and bits (001, Annex A, Appendix 3, paragraph 4)

-- a bit is zero where the level is that before it, and one where it differs; the first level gives no bit
pub same_level : (ls : List ℕ) (a : ℕ) → a ≤ 1 → decoded (ls ++ a ∷ a ∷ []) ≡ decoded (ls ++ a ∷ []) ++ 0 ∷ []
same_level ls a h = levels.bit_more ls a a h h ∙ rw (eq-eqb a a refl)

pub other_level : (ls : List ℕ) (a b : ℕ) → a ≤ 1 → b ≤ 1 → (a ≡ b → ⊥) → decoded (ls ++ a ∷ b ∷ []) ≡ decoded (ls ++ a ∷ []) ++ 1 ∷ []
other_level ls a b h l other = levels.bit_more ls a b h l ∙ rw (ne_eqb a b other)

pub first_level : (l : ℕ) → decoded (l ∷ []) ≡ []
first_level l = go (refused l)
  where
    go : (t : Bool) → bits_of (pick t [] (l ∷ [])) ≡ []
    go true = refl
    go false = refl

-- a level is refused exactly when it is neither 0 nor 1, whatever the state, and a refused level counts for nothing
pub level_refused : {s : Receiver} {level : ℕ} {h : Heard} → Steps s level h → ((h.refusal ≡ numbered 1) ↔ (1 < level)) × ((h.refusal ≡ numbered 0) ↔ (level ≤ 1))
level_refused {s} {level} {h} x = go (refused level) refl (stepped x)
  where
    go : (t : Bool) → refused level ≡ t → h ≡ pick t (refused_by s) (answer_of (accepted s level))
        → ((h.refusal ≡ numbered 1) ↔ (1 < level)) × ((h.refusal ≡ numbered 0) ↔ (level ≤ 1))
    go true e q =
        let is : h.refusal ≡ numbered 1 = ap (λ (x : Heard). x.refusal) q in (
          (λ _. ltb-true 1 level e, λ _. is),
          (λ f. absurd (omega (arith, ap (λ (r : Refusal). r.number) (sym is ∙ f))), λ l. absurd (omega (arith, ltb-true 1 level e))),
        )
    go false e q =
        let is : h.refusal ≡ numbered 0 = ap (λ (x : Heard). x.refusal) q in (
          (λ f. absurd (omega (arith, ap (λ (r : Refusal). r.number) (sym is ∙ f))), λ l. absurd (omega (arith, ltb-false 1 level e))),
          (λ _. ltb-false 1 level e, λ _. is),
        )

pub refused_level : (ls ms : List ℕ) (l : ℕ) → 1 < l → decoded (ls ++ l ∷ ms) ≡ decoded (ls ++ ms)
refused_level = levels.refused_more

-- ---- what is answered

-- any levels can be fed, so what follows speaks of every run
pub any_levels : (ls : List ℕ) → Fed ls (run ls)
any_levels = line-calls.fed_any

-- the whole answer, the state included, is what the decoded bits say
pub demand3 : {ls : List ℕ} {s : Receiver} {l : ℕ} {h : Heard} → Fed ls s → Steps s l h → h ≡ told ls l
demand3 f (steps κs a h e p) = demand3_of_calls f κs e a.1.0 h p

-- as the machine has it after these levels
as_run : {ls : List ℕ} {s : Receiver} {l : ℕ} {h : Heard} → Fed ls s → Steps s l h → h ≡ heard_of (run ls) l
as_run {ls} {s} {l} f x = line-calls.next_heard l f (stepped x)

-- in words: a frame is handed over exactly when the level is 0 or 1, 128 bits have been decoded and the last 128 are a good frame
pub heard_exactly : {ls : List ℕ} {s : Receiver} {l : ℕ} {h : Heard} → Fed ls s → Steps s l h
    → (h.frame ≡ true)
    ↔ ((l ≤ 1) × (128 ≤ length (decoded (ls ++ l ∷ []))) × (good_frame (λ n. get_or (decoded (ls ++ l ∷ [])) (length (decoded (ls ++ l ∷ [])) - 128 + (n - 1)) 0) ≡ true))
unfolding ends_good
heard_exactly {ls} {s} {l} {h} f x = (
  λ e.
      let w = line.frame_means ls l (sym (ap (λ (x : Heard). x.frame) (as_run f x)) ∙ e) in
      let b = both_true {a = leb 128 (length (decoded (ls ++ l ∷ [])))} {b = good_frame (last_frame (decoded (ls ++ l ∷ [])))} w.1 in
      (w.0, leb-true _ _ b.0, b.1),
  λ w.
      ap (λ (x : Heard). x.frame) (demand3 f x)
      ∙ rw (le-ltb 1 l w.0) (λ i. both (le-leb 128 (length (decoded (ls ++ l ∷ []))) w.1 i) (w.2 i)),
)

-- and then that frame; else sixteen zero octets
pub heard_image : {ls : List ℕ} {s : Receiver} {l : ℕ} {h : Heard} → Fed ls s → Steps s l h
    → (h.frame ≡ true → h.image ≡ octets_of 16 (λ n. get_or (decoded (ls ++ l ∷ [])) (length (decoded (ls ++ l ∷ [])) - 128 + (n - 1)) 0)) × (h.frame ≡ false → h.image ≡ replicate 16 0)
heard_image {ls} {s} {l} {h} f x = go (refused l) (demand3 f x)
  where
    bits : List ℕ
    bits = decoded (ls ++ l ∷ [])

    Image : Type 0
    Image = (h.frame ≡ true → h.image ≡ octets_of 16 (last_frame bits)) × (h.frame ≡ false → h.image ≡ replicate 16 0)

    by : (t : Bool) → h.frame ≡ t → h.image ≡ pick t (octets_of 16 (last_frame bits)) (replicate 16 0) → Image
    by true e q = (λ _. q, λ g. absurd (clash e g))
    by false e q = (λ g. absurd (clash g e), λ _. q)

    go : (t : Bool) → h ≡ pick t (told_refused ls) (told_of (ls ++ l ∷ []) bits) → Image
    go true q = by false (ap (λ (x : Heard). x.frame) q) (ap (λ (x : Heard). x.image) q)
    go false q = by (ends_good bits) (ap (λ (x : Heard). x.frame) q) (ap (λ (x : Heard). x.image) q)

-- bits before a fresh start never count: where fewer than 128 have been decoded there is no frame
pub too_few : {ls : List ℕ} {s : Receiver} {l : ℕ} {h : Heard} → Fed ls s → Steps s l h → length (decoded (ls ++ l ∷ [])) < 128 → h.frame ≡ false
too_few f x few = never_true _ (λ e. omega (arith, ((heard_exactly f x).0 e).1))

-- each good frame is heard on its last bit: 128 bits that are a good frame, whatever came before them
pub heard_on_last_bit : {ls : List ℕ} {s : Receiver} {l : ℕ} {h : Heard} → Fed ls s → Steps s l h → (before frame : List ℕ) → l ≤ 1 → decoded (ls ++ l ∷ []) ≡ before ++ frame
    → length frame ≡ 128 → good_frame (λ n. get_or frame (n - 1) 0) ≡ true → (h.frame ≡ true) × (h.image ≡ octets_of 16 (λ n. get_or frame (n - 1) 0))
heard_on_last_bit {ls} {s} {l} {h} f x before frame level ends size good =
    let e : h ≡ line.handed (ls ++ l ∷ []) (octets_of 16 (line.frame_in frame)) = as_run f x ∙ line.heard_on_last_bit ls l before frame level ends size good in
    (ap (λ (x : Heard). x.frame) e, ap (λ (x : Heard). x.image) e)

-- no two overlap: at the second of two frames handed over, at least 128 more bits have come
pub heard_apart : {ls : List ℕ} (ms : List ℕ) {s t : Receiver} {l m : ℕ} {h g : Heard} → Fed ls s → Steps s l h → h.frame ≡ true
    → Fed ((ls ++ l ∷ []) ++ ms) t → Steps t m g → g.frame ≡ true
    → length (decoded (ls ++ l ∷ [])) + 128 ≤ length (decoded (((ls ++ l ∷ []) ++ ms) ++ m ∷ []))
heard_apart {ls} ms {s} {t} {l} {m} f x e u y g =
    line.heard_apart ls l ms m (sym (ap (λ (x : Heard). x.frame) (as_run f x)) ∙ e) (sym (ap (λ (x : Heard). x.frame) (as_run u y)) ∙ g)

-- swapping the two wires, 0 for 1 and 1 for 0, changes nothing that is answered
pub swapped_levels : (swap 0 ≡ 1) × (swap 1 ≡ 0)
swapped_levels = (refl, refl)

pub wires_swapped : {ls : List ℕ} {s t : Receiver} {l : ℕ} {h g : Heard} → Fed ls s → Steps s l h → Fed (map swap ls) t → Steps t (swap l) g
    → (g.refusal ≡ h.refusal) × (g.frame ≡ h.frame) × (g.image ≡ h.image)
wires_swapped {ls} {s} {t} {l} {h} {g} f x u y =
    let e : line.said g ≡ line.said h = ap line.said (as_run u y) ∙ line.wires_swapped ls l ∙ sym (ap line.said (as_run f x)) in
    (ap (λ (p : _). p.0) e, ap (λ (p : _). p.1) e, ap (λ (p : _). p.2) e)

-- ---- sending (01, 'Orders of checks')

-- an image is sent exactly if it has sixteen octets, the buffer has 128, the level before is 0 or 1 and the image is a good frame
pub send_exactly : {image : List ℕ} {previous : ℕ} {buffer after : List ℕ} {r : Refusal} → Sends image previous buffer r after
    → (r ≡ numbered 0) ↔ ((length image ≡ 16) × (length buffer ≡ 128) × (previous ≤ 1) × (good_frame (bit_at image) ≡ true))
unfolding send_refusal good_frame
send_exactly {image} {previous} {buffer} s = (
  λ e.
      let p = (success_exactly (send_checks image previous buffer) refl).0 (sym (sent s).0 ∙ e) in
      let q = p.1.1.1 in
      (eqb-true _ _ p.0, eqb-true _ _ p.1.0, ltb-false 1 previous (not-true _ p.1.1.0), λ i. both (q.0 i) (both (q.1.0 i) (q.1.1.0 i))),
  λ w.
      let p = good_parts (bit_at image) w.3 in
      (sent s).0
      ∙ (success_exactly (send_checks image previous buffer) refl).1
      (eq-eqb _ _ w.0, (eq-eqb _ _ w.1, (ap not (le-ltb 1 previous w.2), (p.0, (p.1, (p.2, tt)))))),
)

-- what is sent, behind that level, decodes to the image's 128 bits
pub sent_bits : {image : List ℕ} {previous : ℕ} {buffer after : List ℕ} → Sends image previous buffer (numbered 0) after
    → decoded (previous ∷ after) ≡ tab (λ i. bit_at image (i + 1)) 128
sent_bits {image} {previous} {buffer} s = ap (λ (t : List ℕ). decoded (previous ∷ t)) (sent s).1 ∙ line.sent_bits image previous buffer (sym (sent s).0)

-- a fresh receiver given that level and then these hands over the same image on the last
pub sent_heard : {image : List ℕ} {previous : ℕ} {buffer after : List ℕ} {ls : List ℕ} {s : Receiver} {l : ℕ} {h : Heard}
    → Sends image previous buffer (numbered 0) after → AreOctets image → ls ++ l ∷ [] ≡ previous ∷ after → Fed ls s → Steps s l h → (h.frame ≡ true) × (h.image ≡ image)
sent_heard {image} {previous} {buffer} {after} {ls} {s} {l} {h} x octets e f y =
    let q : h ≡ line.handed (ls ++ l ∷ []) image =
    as_run f y ∙ line.sent_heard image previous buffer (sym (sent x).0) octets ls l (e ∙ ap (λ (t : List ℕ). previous ∷ t) (sent x).1) in
    (ap (λ (x : Heard). x.frame) q, ap (λ (x : Heard). x.image) q)

-- ---- the receiver that is fed octets (02, item 5): demand 3 holds for it too. `FedOctets octets s` is a chain of its two calls, `Takes s
-- o h` one octet more

pub any_octets : (octets : List ℕ) → FedOctets octets (fed_to octets (length octets))
any_octets = octet-calls.fed_octets_any

-- the whole answer is what the bits that have come say: the bit of 1 to 8 with which they end in a good frame and that frame, or no frame,
-- bit 0 and sixteen zero octets
pub octets_demand3 : {octets : List ℕ} {s : OctetReceiver} {o : ℕ} {h : HeardOctet} → FedOctets octets s → Takes s o h → AreOctets (octets ++ o ∷ [])
    → h ≡ told_octet (octets ++ o ∷ []) (length octets)
octets_demand3 f (takes κs a h e p) small = octets_demand3_of_calls f κs e a.1.0 h small p

-- as the receiver has it after these octets
as_fed : {octets : List ℕ} {s : OctetReceiver} {o : ℕ} {h : HeardOctet} → FedOctets octets s → Takes s o h → h ≡ heard_at (octets ++ o ∷ []) (length octets)
as_fed {octets} {s} {o} f x = octet-calls.next_heard octets o (fed_octets_run f) (taken x)

-- each good frame is heard in the octet of its last bit, and at that bit: the frame at a position, whatever came before it
pub heard_in_last_octet : {octets : List ℕ} {s : OctetReceiver} {o : ℕ} {h : HeardOctet} → FedOctets octets s → Takes s o h → AreOctets (octets ++ o ∷ [])
    → (position j : ℕ) → 1 ≤ j → j ≤ 8 → position + 128 ≡ 8 * length octets + j → good_frame (λ n. bit_at (octets ++ o ∷ []) (position + n)) ≡ true
    → (h.frame ≡ true) × (h.bit ≡ j) × (h.image ≡ octets_of 16 (λ n. bit_at (octets ++ o ∷ []) (position + n)))
heard_in_last_octet {octets} {s} {o} f x small position j least most ends good =
    let p = octet.heard_in_last_octet (octets ++ o ∷ []) small position (length octets) j least most ends good in
    let e = as_fed f x in
    (ap (λ (h : HeardOctet). h.frame) e ∙ p.0, ap (λ (h : HeardOctet). h.bit) e ∙ p.1, ap (λ (h : HeardOctet). h.image) e ∙ p.2)

-- no two overlap: the last bits of two frames handed over lie at least 128 apart
pub octets_apart : {octets : List ℕ} (more : List ℕ) {s t : OctetReceiver} {o p : ℕ} {h g : HeardOctet} → FedOctets octets s → Takes s o h → h.frame ≡ true
    → FedOctets ((octets ++ o ∷ []) ++ more) t → Takes t p g → g.frame ≡ true → AreOctets (((octets ++ o ∷ []) ++ more) ++ p ∷ [])
    → 8 * length octets + h.bit + 128 ≤ 8 * length ((octets ++ o ∷ []) ++ more) + g.bit
octets_apart {octets} more {s} {t} {o} {p} {h} {g} f x e u y d small =
    let come = octets ++ o ∷ [] in
    let most = come ++ more in
    let one : length come ≡ suc (length octets) = omega (arith, length-append octets (o ∷ [])) in
    let later : length octets < length most = omega (arith, one, length-append come more) in
    let first : h ≡ heard_at (most ++ p ∷ []) (length octets) =
    as_fed f x ∙ sym (octet-calls.heard_before come more (length octets) (omega (arith, one))) ∙ sym (octet-calls.heard_before most (p ∷ []) (length octets) later) in
    let second : g ≡ heard_at (most ++ p ∷ []) (length most) = as_fed u y in
    let one-heard : (heard_at (most ++ p ∷ []) (length octets)).frame ≡ true = sym (ap (λ (h : HeardOctet). h.frame) first) ∙ e in
    let two-heard : (heard_at (most ++ p ∷ []) (length most)).frame ≡ true = sym (ap (λ (h : HeardOctet). h.frame) second) ∙ d in
    omega (
      arith,
      octet.octets_apart (most ++ p ∷ []) small (length octets) (length most) later one-heard two-heard,
      ap (λ (h : HeardOctet). h.bit) first,
      ap (λ (h : HeardOctet). h.bit) second,
    )
