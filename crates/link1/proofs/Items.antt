-- THE CHANGE REQUESTS (02, items 1 to 7): what is not already in Orders, Demand1, Demand2 and Demand3, over the calls' own contracts
-- (Calls.antt), each law with its whole statement. Assumes nothing.
use mathlib.Core.Path.{◌≡◌, refl, sym, ap, ap₂, ◌∙◌}
use mathlib.Core.Bool.{true, false}
use mathlib.Core.List.{List, [], ◌∷◌, ◌++◌, Permᴰ}
use mathlib.Core.Logic.{◌↔◌, ◌⊎◌}
use Prim.Native.Nat.{ℕ, ◌+◌, ◌-◌, ◌*◌, ◌%◌, ◌^◌, ◌≤◌, ◌<◌}
use lib.Dec.{eqb, leb, ltb}
use lib.IntN.{ℤ, neg_ℤ}
use borrow.Author.Tests.{eqb-true, eq-eqb}
use lib.ListN.{length, get_or, replicate, set}
use Rattle.std.specs.Prelude.{Ok, Err, Some, None}
use Rattle.bits.specs.Octets.{AreOctets, bit_at, octets_of}
use Rattle.bits.specs.Numbers.{tab, sum_of}
use Rattle.bits.specs.Tests.{pick, both}
use Rattle.layout.specs.Begins.{Begins, Misfits}
use Rattle.layout.specs.declared.Cause.{Cause}
use Rattle.refusal.specs.Refusals.{numbered, inside_at}
use Rattle.refusal.specs.declared.Refusal.{Refusal}
use Rattle.frame.specs.Frame.{good_frame, verdict_of}
use Rattle.kind.specs.Layouts.{layout_of}
use Rattle.message.specs.Messages.{kind_of, parts_of}
use Rattle.message.specs.declared.Message.{Message}
use Rattle.message.specs.declared.Message.TheVariants as m
use Rattle.message.specs.declared.Track.{Track}
use Rattle.message.specs.declared.Corner.{Corner}
use Rattle.message.specs.declared.Iff.{Iff}
use Rattle.message.specs.declared.Amplifying.{Amplifying}
use Rattle.message.specs.declared.Strobe.{Strobe}
use Rattle.units.specs.Offsets.{sum_z}
use Rattle.units.specs.Nearest.{OddMultiple}
use Rattle.line.specs.Levels.{decoded}
use Rattle.line.specs.Machine.{heard_of, run}
use Rattle.line.specs.Told.{last_frame, swap}
use Rattle.line.specs.Sending.{send_levels}
use Rattle.line.specs.WrongLevel.{changed_at, wrong_bits, refusal_at, pass_together}
use Rattle.line.specs.declared.Receiver.{Receiver}
use Rattle.line.specs.declared.Heard.{Heard}
use Rattle.octets.specs.Feeding.{ends_at, heard_at}
use Rattle.octets.specs.declared.OctetReceiver.{OctetReceiver}
use Rattle.octets.specs.declared.HeardOctet.{HeardOctet}
use Rattle.pair.specs.Opening.{Opened, word_kind, first_word, second_word}
use Rattle.pair.specs.ZeroedImage.{zeroed_image}
use Rattle.position.specs.Positions.{position_of, is_somewhere, x_of, y_of}
use Rattle.relay.specs.Relay.{first_message, second_message, relay_refusal, relay_image}
use Rattle.frame.proofs.FrameLaws.{good_ext, verdict_by_lem}
use Rattle.line.proofs.Demand3.{ends_in}
use Rattle.line.proofs.OfCalls.{Fed}
use Rattle.line.proofs.OfCalls as line-calls
use Rattle.octets.proofs.OfCalls.{FedOctets, fed_octets_run}
use Rattle.octets.proofs.OfCalls as octet-calls
use Rattle.octets.proofs.Equality as equal
use Rattle.octets.proofs.AnswerLaws as answers
use Rattle.line.proofs.OneWrongLevel as wrong
use Rattle.pair.proofs.DigitsIgnored as digits
use Rattle.pair.proofs.FirstTrouble as first
use Rattle.relay.proofs.Theorems as relay
use Rattle.two_levels.proofs.TwoWrongLevels as two
use Rattle.bits.proofs.TestLaws.{both_true}
use Rattle.link1.proofs.Demand3.{send_exactly}
use Rattle.link1.proofs.Calls.{Judges, judged, Opens, opened, Closes, closed, Relays, relayed, Steps, stepped, Takes, taken, Sends, sent}

-- ---- item 1: an area's corner has a position, and is shifted as a track is; no other kind has one

pub positions : (t : Track) (c : Corner)
    → (position_of (m.S4 t) ≡ Some (record { x = t.x; y = t.y }))
    × (position_of (m.S4Plus t) ≡ Some (record { x = t.x; y = t.y }))
    × (position_of (m.S8 t) ≡ Some (record { x = t.x; y = t.y }))
    × (position_of (m.S8Plus t) ≡ Some (record { x = t.x; y = t.y }))
    × (position_of (m.S9 c) ≡ Some (record { x = c.x; y = c.y }))
positions t c = (refl, refl, refl, refl, refl)

pub no_positions : (i : Iff) (a : Amplifying) (s : Strobe)
    → (position_of m.Blank ≡ None) × (position_of m.S0 ≡ None) × (position_of (m.S3 i) ≡ None) × (position_of (m.S5 a) ≡ None) × (position_of (m.S6 s) ≡ None)
no_positions i a s = (refl, refl, refl, refl, refl)

-- ---- item 2: 'ignore an absent mode's code bits': a good frame opens as its zeroed image does, refused ones too

pub digits_ignored : {image : List ℕ} {o p : Opened} {r : Refusal} → Judges image r → r ≡ numbered 0 → Opens image o → Opens (zeroed_image image) p → o ≡ p
digits_ignored {image} j e o p = opened o ∙ digits.digits_ignored image (sym (judged j) ∙ e) ∙ sym (opened p)

-- ---- item 4: the cause and the lowest bit number where the trouble begins; if there are several, the lowest bit wins. The first message
-- is told before the second

-- troubles begin as P says in the first message and as Q says in the second: the trouble told, of cause c at bit b of message `place`, is
-- one of these and none begins at a lower bit of its message; where the second message is told, none begins in the first
abbrev pub IsLowest : (Cause → ℕ → Type 0) → (Cause → ℕ → Type 0) → ℕ → Cause → ℕ → Type 0
IsLowest P Q place c b =
    ((place ≡ 1) × (P c b × ((d : Cause) (e : ℕ) → P d e → b ≤ e)))
    ⊎ (((d : Cause) (e : ℕ) → P d e → ⊥) × (place ≡ 2) × (Q c b × ((d : Cause) (e : ℕ) → Q d e → b ≤ e)))

-- opening: troubles of the two words, as messages of the kinds that their labels name, from bit 7 on
pub open_lowest : {image : List ℕ} (place : ℕ) (c : Cause) (b : ℕ) → Opens image (Err (inside_at place c b))
    → IsLowest (Begins 6 (layout_of (word_kind (first_word image))) (first_word image)) (Begins 6 (layout_of (word_kind (second_word image))) (second_word image)) place c b
open_lowest {image} place c b o = first.open_first image place c b (sym (opened o))

-- closing: troubles of the values of the two messages
pub close_lowest : {one two : Message} {buffer after : List ℕ} (place : ℕ) (c : Cause) (b : ℕ) → Closes one two buffer (inside_at place c b) after
    → IsLowest (Misfits 6 (layout_of (kind_of one)) (parts_of one)) (Misfits 6 (layout_of (kind_of two)) (parts_of two)) place c b
close_lowest {one} {two} {buffer} place c b x = first.close_first one two buffer place c b (sym (closed x).0)

-- 'every caller passes it up': what a relay tells so, opening tells
pub relay_passes_up : {image : List ℕ} {xs ys : List ℤ} {buffer after : List ℕ} {o : Opened} (place : ℕ) (c : Cause) (b : ℕ)
    → Relays image xs ys buffer (inside_at place c b) after → Opens image o → o ≡ Err (inside_at place c b)
relay_passes_up {image} {xs} {ys} {buffer} place c b x o = opened o ∙ relay.relay_first image xs ys buffer place c b (sym (relayed x).0)

-- ---- item 5: the receiver that is fed octets

-- 'at most one can end there', whatever the state: a window of 128 bits and an octet
pub at_most_one : (s : OctetReceiver) (o : ℕ) → s.window.older < 2 ^ 64 → s.window.newer < 2 ^ 64 → o < 256
    → (j k : ℕ) → j ≤ 8 → k ≤ 8 → ends_at s.window o j ≡ true → ends_at s.window o k ≡ true → j ≡ k
at_most_one s o = answers.at_most_one s.window o

-- THE EQUALITY: over any run of octets, and any levels that decode to the bits of these octets and then the first j bits of the next, the
-- first receiver hands over a frame at its last level exactly if the octet receiver hands one over at bit j, and then both hand over the
-- same sixteen octets
pub equality : {ls octets : List ℕ} {s : Receiver} {t : OctetReceiver} {l o : ℕ} {h : Heard} {g : HeardOctet} → Fed ls s → Steps s l h → FedOctets octets t → Takes t o g
    → AreOctets (octets ++ o ∷ []) → (j : ℕ) → l ≤ 1 → 1 ≤ j → j ≤ 8 → decoded (ls ++ l ∷ []) ≡ tab (λ i. bit_at (octets ++ o ∷ []) (i + 1)) (8 * length octets + j)
    → ((h.frame ≡ true) ↔ ((g.frame ≡ true) × (g.bit ≡ j))) × (h.frame ≡ true → h.image ≡ g.image)
equality {ls} {octets} {s} {t} {l} {o} {h} {g} f x u y small j level least most same = (
  (
    λ e. let p = by_octet e in (ap (λ (x : HeardOctet). x.frame) heard ∙ p.0, ap (λ (x : HeardOctet). x.bit) heard ∙ p.1),
    λ w.
        ap (λ (x : Heard). x.frame) stepped_as
        ∙ (equal.heard_by_level (octets ++ o ∷ []) small ls l (length octets) j level least most same (sym (ap (λ (x : HeardOctet). x.frame) heard) ∙ w.0) (sym (ap (λ (x : HeardOctet). x.bit) heard) ∙ w.1)).0,
  ),
  λ e. ap (λ (x : Heard). x.image) stepped_as ∙ sym (ap (λ (x : HeardOctet). x.image) heard ∙ (by_octet e).2),
)
  where
    stepped_as : h ≡ heard_of (run ls) l
    stepped_as = line-calls.next_heard l f (stepped x)

    heard : g ≡ heard_at (octets ++ o ∷ []) (length octets)
    heard = octet-calls.next_heard octets o (fed_octets_run u) (taken y)

    by_octet : h.frame ≡ true
        → ((heard_at (octets ++ o ∷ []) (length octets)).frame ≡ true)
        × ((heard_at (octets ++ o ∷ []) (length octets)).bit ≡ j)
        × ((heard_at (octets ++ o ∷ []) (length octets)).image ≡ (heard_of (run ls) l).image)
    by_octet e = equal.heard_by_octet (octets ++ o ∷ []) small ls l (length octets) j level least most same (sym (ap (λ (x : Heard). x.frame) stepped_as) ∙ e)

-- ---- item 6: one relay step

-- empty lists: an image that opens is relayed to its zeroed image
pub nothing_moves : {image buffer after : List ℕ} {one two : Message} {r : Refusal} → Opens image (Ok (one, two)) → Relays image [] [] buffer r after → length buffer ≡ 16
    → (r ≡ numbered 0) × (after ≡ zeroed_image image)
nothing_moves {image} {buffer} {after} {one} {two} o x long =
    let p = relay.nothing_moves one two image (sym (opened o)) buffer long in ((relayed x).0 ∙ p.0, (relayed x).1 ∙ p.1)

-- offsets in any other order give the same answer and the same image
pub any_order : {image : List ℕ} {xs us ys vs : List ℤ} {buffer after then : List ℕ} {r s : Refusal} → Permᴰ xs us → Permᴰ ys vs
    → Relays image xs ys buffer r after → Relays image us vs buffer s then → (r ≡ s) × (after ≡ then)
any_order {image} {xs} {us} {ys} {vs} {buffer} p q x y =
    let e = relay.any_order image buffer p q in ((relayed x).0 ∙ e.0 ∙ sym (relayed y).0, (relayed x).1 ∙ e.1 ∙ sym (relayed y).1)

-- what is written has no digit left in an absent mode: it is its own zeroed image
pub relay_zeroed : {image : List ℕ} {xs ys : List ℤ} {buffer after : List ℕ} → Relays image xs ys buffer (numbered 0) after → zeroed_image after ≡ after
relay_zeroed {image} {xs} {ys} {buffer} x =
    ap zeroed_image (relayed x).1 ∙ relay.relay_zeroed image xs ys buffer (sym (relayed x).0) ∙ sym (relayed x).1

-- there and back, for each axis: a relay by offsets with sum d and then by one offset of -d gives back the position of both messages, if
-- neither relay is refused and d is no odd multiple of 375, whatever the other axis does
module _ {image there back : List ℕ} {xs ys us vs : List ℤ} {buffer buffer' : List ℕ}
    (x : Relays image xs ys buffer (numbered 0) there) (y : Relays there us vs buffer' (numbered 0) back) where
  taken_back : relay_refusal (relay_image image xs ys buffer) us vs buffer' ≡ numbered 0
  taken_back = ap (λ (t : List ℕ). relay_refusal t us vs buffer') (sym (relayed x).1) ∙ sym (relayed y).0

  came_back : relay_image (relay_image image xs ys buffer) us vs buffer' ≡ back
  came_back = ap (λ (t : List ℕ). relay_image t us vs buffer') (sym (relayed x).1) ∙ sym (relayed y).1

  pub x_returns : us ≡ neg_ℤ (sum_z xs) ∷ [] → (OddMultiple (sum_z xs) → ⊥)
      → (x_of (position_of (first_message back)) ≡ x_of (position_of (first_message image))) × (x_of (position_of (second_message back)) ≡ x_of (position_of (second_message image)))
  x_returns e odd =
      let p = relay.x_returns image xs ys us vs buffer buffer' (sym (relayed x).0) taken_back (e, odd) in (
        ap (λ (b : List ℕ). x_of (position_of (first_message b))) (sym came_back) ∙ p.0,
        ap (λ (b : List ℕ). x_of (position_of (second_message b))) (sym came_back) ∙ p.1,
      )

  pub y_returns : vs ≡ neg_ℤ (sum_z ys) ∷ [] → (OddMultiple (sum_z ys) → ⊥)
      → (y_of (position_of (first_message back)) ≡ y_of (position_of (first_message image))) × (y_of (position_of (second_message back)) ≡ y_of (position_of (second_message image)))
  y_returns e odd =
      let p = relay.y_returns image xs ys us vs buffer buffer' (sym (relayed x).0) taken_back (e, odd) in (
        ap (λ (b : List ℕ). y_of (position_of (first_message b))) (sym came_back) ∙ p.0,
        ap (λ (b : List ℕ). y_of (position_of (second_message b))) (sym came_back) ∙ p.1,
      )

  -- on both axes the whole image comes back, zeroed
  pub image_returns : us ≡ neg_ℤ (sum_z xs) ∷ [] → (OddMultiple (sum_z xs) → ⊥) → vs ≡ neg_ℤ (sum_z ys) ∷ [] → (OddMultiple (sum_z ys) → ⊥) → back ≡ zeroed_image image
  image_returns e odd f odd' =
      sym came_back ∙ relay.image_returns image xs ys us vs buffer buffer' (sym (relayed x).0) taken_back (e, odd) (f, odd')

-- an image with a position comes home: the way back is then not refused
pub home_again : {image there back : List ℕ} {xs ys us vs : List ℤ} {buffer buffer' : List ℕ} {r : Refusal}
    → Relays image xs ys buffer (numbered 0) there → Relays there us vs buffer' r back
    → (is_somewhere (position_of (first_message image)) ≡ true) ⊎ (is_somewhere (position_of (second_message image)) ≡ true)
    → us ≡ neg_ℤ (sum_z xs) ∷ [] → (OddMultiple (sum_z xs) → ⊥) → vs ≡ neg_ℤ (sum_z ys) ∷ [] → (OddMultiple (sum_z ys) → ⊥) → length buffer' ≡ 16
    → (r ≡ numbered 0) × (back ≡ zeroed_image image)
home_again {image} {there} {back} {xs} {ys} {us} {vs} {buffer} {buffer'} x y h e odd f odd' long =
    let p = relay.home_again image xs ys us vs buffer buffer' (sym (relayed x).0) h (e, odd) (f, odd') long in (
      (relayed y).0 ∙ ap (λ (t : List ℕ). relay_refusal t us vs buffer') (relayed x).1 ∙ p.0,
      (relayed y).1 ∙ ap (λ (t : List ℕ). relay_image t us vs buffer') (relayed x).1 ∙ p.1,
    )

-- ---- item 7: one wrong level

-- a good frame as sent, with the level before it, number 0; any one of those 129 levels, number i, is changed, 0 for 1 and 1 for 0
module _ {image : List ℕ} {previous : ℕ} {buffer after : List ℕ} (x : Sends image previous buffer (numbered 0) after) where
  abbrev pub wrong_at : ℕ → List ℕ
  wrong_at i = set (previous ∷ after) i (swap (get_or (previous ∷ after) i 0))

  passed : (verdict_of image ≡ numbered 0) × (previous ≤ 1) × (length buffer ≡ 128)
  passed = let p = (send_exactly x).0 refl in (verdict_by_lem image p.0 p.3, p.2, p.1)

  as_sent : (i : ℕ) → decoded (wrong_at i) ≡ wrong_bits image previous buffer i
  as_sent i = ap (λ (t : List ℕ). decoded (changed_at i (previous ∷ t))) (sent x).1

  -- the 128 bits at that place are then not a good frame
  pub one_wrong_level : (i : ℕ) → i ≤ 128 → (length (decoded (wrong_at i)) ≡ 128) × (good_frame (λ n. get_or (decoded (wrong_at i)) (n - 1) 0) ≡ false)
  one_wrong_level i few =
      let p = wrong.one_wrong_level image passed.0 previous passed.1 buffer passed.2 i few in
      let long = ap length (as_sent i) ∙ p.0 in
      (long, good_ext _ _ (λ n _ _. sym (ends_in [] (decoded (wrong_at i)) long n)) ∙ ap (λ (bits : List ℕ). good_frame (last_frame bits)) (as_sent i) ∙ p.1)

  -- what is told of the sixteen octets that they make: 3 up to level 8, 4 beside a mark or the final one, else 5
  pub which_refusal : {r : Refusal} (i : ℕ) → i ≤ 128 → Judges (octets_of 16 (last_frame (decoded (wrong_at i)))) r
      → r ≡ numbered (pick (leb i 8) 3 (pick (leb 127 i) 4 (pick (leb (i % 8) 1) 4 5)))
  which_refusal i few j =
      judged j ∙ ap (λ (bits : List ℕ). verdict_of (octets_of 16 (last_frame bits))) (as_sent i)
      ∙ wrong.which_refusal image passed.0 previous passed.1 buffer passed.2 i few

  -- a receiver hands over nothing on the last of these levels, whatever it was fed before
  pub nothing_heard : {ls : List ℕ} {s : Receiver} {l : ℕ} {h : Heard} (i : ℕ) → i ≤ 128 → (before : List ℕ) → ls ++ l ∷ [] ≡ before ++ wrong_at i → Fed ls s → Steps s l h
      → (h.frame ≡ false) × (h.image ≡ replicate 16 0)
  nothing_heard {ls} {s} {l} i few before e f y =
      let here : before ++ wrong_at i ≡ before ++ changed_at i (previous ∷ send_levels image previous buffer) =
      ap (λ (t : List ℕ). before ++ changed_at i (previous ∷ t)) (sent x).1 in
      let q = line-calls.next_heard l f (stepped y)
      ∙ wrong.nothing_heard image passed.0 previous passed.1 buffer passed.2 i few before ls l (e ∙ here) in
      (ap (λ (h : Heard). h.frame) q, ap (λ (h : Heard). h.image) q)

  -- two of them, numbers i and k: the bits are a good frame exactly if each alone is told 5 and the numbers differ by a multiple of 8
  pub two_wrong_levels : (i k : ℕ) → i < k → k ≤ 128
      → (good_frame (last_frame (decoded (set (wrong_at i) k (swap (get_or (wrong_at i) k 0))))) ≡ true) ↔ ((refusal_at i ≡ 5) × (refusal_at k ≡ 5) × (i % 8 ≡ k % 8))
  two_wrong_levels i k order few =
      let e : good_frame (last_frame (decoded (changed_at k (wrong_at i)))) ≡ pass_together i k =
      ap (λ (t : List ℕ). good_frame (last_frame (decoded (changed_at k (changed_at i (previous ∷ t)))))) (sent x).1
      ∙ two.two_wrong_levels image passed.0 previous passed.1 buffer passed.2 i k order few in (
        λ good.
            let p = both_true {a = eqb (refusal_at i) 5} {b = both (eqb (refusal_at k) 5) (eqb (i % 8) (k % 8))} (sym e ∙ good) in
            let q = both_true {a = eqb (refusal_at k) 5} {b = eqb (i % 8) (k % 8)} p.1 in
            (eqb-true _ _ p.0, eqb-true _ _ q.0, eqb-true _ _ q.1),
        λ w. e ∙ ap₂ both (eq-eqb _ _ w.0) (ap₂ both (eq-eqb _ _ w.1) (eq-eqb _ _ w.2)),
      )

-- of the 8,256 choices of two levels 616 pass
pub counted : sum_of (λ i. sum_of (λ k. pick (both (ltb i k) (pass_together i k)) 1 0) 129) 129 ≡ 616
counted = two.counted
