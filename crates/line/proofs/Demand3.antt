-- DEMAND 3, over all runs of levels, noise and refused levels included. Assumes nothing.
use mathlib.Core.Path.{◌≡◌, refl, sym, ap, ap₂, ◌∙◌}
use mathlib.Core.Bool.{Bool, true, false}
use mathlib.Core.List.{List, [], ◌∷◌, ◌++◌, map, append_assoc}
use Prim.Native.Nat.{ℕ, ◌+◌, ◌-◌, ◌≤◌}
use native.Mathlib.Omega.{arith}
use borrow.Author.Tests.{le-ltb, le-leb, ltb-false, leb-true, eqb-true, not-true}
use lib.Dec.{leb}
use lib.ListN.{length, get_or, length-append, get_or-append}
use lib.Seq.{get_or-append-add}
use Rattle.bits.specs.Tests.{pick, both}
use Rattle.bits.specs.Octets.{AreOctets, bit_at, octets_of}
use Rattle.refusal.specs.Refusals.{numbered, success}
use Rattle.refusal.specs.declared.Refusal.{Refusal}
use Rattle.frame.specs.Frame.{good_frame}
use Rattle.line.specs.Levels.{refused, kept, bits_after, bits_of, decoded}
use Rattle.line.specs.Machine.{nothing_handed, answer_with, heard_of, run}
use Rattle.line.specs.Told.{last_frame, ends_good, told_of, told_refused, told, swap}
use Rattle.line.specs.Sending.{levels_after, image_bits, send_checks, send_refusal, send_levels}
use Rattle.line.specs.declared.Heard.{Heard}
use Rattle.bits.proofs.TestLaws.{both_true, clash}
use Rattle.bits.proofs.NumberLaws.{length_tab, get_or-tab}
use Rattle.bits.proofs.OctetLaws.{bit_lt, octets_bits, octets_ext}
use Rattle.refusal.proofs.CheckLaws.{Passed, success_passed, given}
use Rattle.frame.proofs.FrameLaws.{good_ext, apart}
use Rattle.line.proofs.WindowLaws.{Bits, more, bits_tab}
use Rattle.line.proofs.LevelLaws.{last_level, bits_append, length_bits, kept_append, kept_snoc, kept_all, bits_last, refused_swap, decoded_swap, told_bits, levels_bits}
use Rattle.line.proofs.Holding.{heard_told}

-- A fresh receiver that was fed any levels answers any next level as the decoded bits say: at a level that is 0 or 1 it
-- hands over a frame exactly when the last 128 bits are a good frame, and then that frame; at any other level none.
pub demand3 : (ls : List ℕ) (l : ℕ) → heard_of (run ls) l ≡ told ls l
demand3 = heard_told

-- the answer that hands over an image
abbrev pub handed : List ℕ → List ℕ → Heard
handed ls image = record { receiver = run ls; refusal = numbered success; frame = true; image = image }

good_told : (ls : List ℕ) (l : ℕ) → l ≤ 1 → ends_good (decoded (ls ++ l ∷ [])) ≡ true
    → heard_of (run ls) l ≡ handed (ls ++ l ∷ []) (octets_of 16 (last_frame (decoded (ls ++ l ∷ []))))
good_told ls l h g = demand3 ls l ∙ rw (le-ltb 1 l h, g)

-- ---- each good frame is heard on its last bit

-- a list of 128 bits as a frame
abbrev pub frame_in : List ℕ → ℕ → ℕ
frame_in bits n = get_or bits (n - 1) 0

module _ (before frame : List ℕ) (size : length frame ≡ 128) where
  pub ends_in : (n : ℕ) → last_frame (before ++ frame) n ≡ frame_in frame n
  ends_in n =
      let e : length (before ++ frame) - 128 + (n - 1) ≡ length before + (n - 1) = omega (arith, length-append before frame) in
      ap (λ (i : ℕ). get_or (before ++ frame) i 0) e ∙ get_or-append-add before frame (n - 1) 0

  -- they end in a good frame exactly if this is one
  ends_good_lem : ends_good (before ++ frame) ≡ good_frame (frame_in frame)
  unfolding ends_good
  ends_good_lem = ap₂ both (le-leb 128 (length (before ++ frame)) (omega (arith, length-append before frame))) (good_ext _ _ (λ n _ _. ends_in n))

pub heard_on_last_bit : (ls : List ℕ) (l : ℕ) (before frame : List ℕ) → l ≤ 1 → decoded (ls ++ l ∷ []) ≡ before ++ frame
    → length frame ≡ 128 → good_frame (frame_in frame) ≡ true → heard_of (run ls) l ≡ handed (ls ++ l ∷ []) (octets_of 16 (frame_in frame))
heard_on_last_bit ls l before frame h e size g =
    good_told ls l h (ap ends_good e ∙ ends_good_lem before frame size ∙ g)
    ∙ ap (handed (ls ++ l ∷ [])) (octets_ext 16 _ _ (λ n _ _. ap (λ (bits : List ℕ). last_frame bits n) e ∙ ends_in before frame size n))

-- and where the last 128 bits are not a good frame, nothing is handed over
pub silent_on_last_bit : (ls : List ℕ) (l : ℕ) (before frame : List ℕ) → l ≤ 1 → decoded (ls ++ l ∷ []) ≡ before ++ frame
    → length frame ≡ 128 → good_frame (frame_in frame) ≡ false → heard_of (run ls) l ≡ answer_with (run (ls ++ l ∷ [])) success nothing_handed
silent_on_last_bit ls l before frame h e size g = demand3 ls l ∙ rw (le-ltb 1 l h, ap ends_good e ∙ ends_good_lem before frame size ∙ g)

-- ---- two frames handed over share no bit

-- a frame is handed over only at a level that is accepted, where the bits end in a good frame
pub frame_means : (ls : List ℕ) (l : ℕ) → (heard_of (run ls) l).frame ≡ true → (l ≤ 1) × (ends_good (decoded (ls ++ l ∷ [])) ≡ true)
frame_means ls l f = go (refused l) refl (sym (ap (λ (h : Heard). h.frame) (demand3 ls l)) ∙ f)
  where
    go : (t : Bool) → refused l ≡ t
        → (pick t (told_refused ls) (told_of (ls ++ l ∷ []) (decoded (ls ++ l ∷ [])))).frame ≡ true
        → (l ≤ 1) × (ends_good (decoded (ls ++ l ∷ [])) ≡ true)
    go true e g = absurd (clash g refl)
    go false e g = (ltb-false 1 l e, g)

-- more levels give more bits, after those there are
later : (ks t : List ℕ) (l m : ℕ) → (y : List ℕ) × (bits_of ((ks ++ l ∷ []) ++ (t ++ m ∷ [])) ≡ bits_of (ks ++ l ∷ []) ++ y) × (1 ≤ length y)
later [] t l m = (bits_after l (t ++ m ∷ []), refl, rw (length_bits l (t ++ m ∷ []), length-append t (m ∷ [])) (omega arith))
later (k ∷ r) t l m = (
  bits_after (last_level k (r ++ l ∷ [])) (t ++ m ∷ []),
  bits_append k (r ++ l ∷ []) (t ++ m ∷ []),
  rw (length_bits (last_level k (r ++ l ∷ [])) (t ++ m ∷ []), length-append t (m ∷ [])) (omega arith),
)

two_apart : (h y : List ℕ) → 1 ≤ length y → ends_good h ≡ true → ends_good (h ++ y) ≡ true → length h + 128 ≤ length (h ++ y)
unfolding ends_good
two_apart h y some a b =
    let ea = both_true {a = leb 128 (length h)} {b = good_frame (last_frame h)} a in
    let eb = both_true {a = leb 128 (length (h ++ y))} {b = good_frame (last_frame (h ++ y))} b in
    let la : 128 ≤ length h = leb-true _ _ ea.0 in
    let lb : 128 ≤ length (h ++ y) = leb-true _ _ eb.0 in
    let el : length (h ++ y) ≡ length h + length y = length-append h y in
    let p = length h - 128 in
    let q = length (h ++ y) - 128 in
    let c : ℕ → ℕ = frame_in (h ++ y) in
    let fa : good_frame (λ n. c (p + n)) ≡ true =
    good_ext _ (last_frame h)
    (λ n u v. let i : p + n - 1 ≡ p + (n - 1) = omega arith in ap (λ (k : ℕ). get_or (h ++ y) k 0) i ∙ get_or-append h y 0 (p + (n - 1)) (omega arith))
    ∙ ea.1 in
    let fb : good_frame (λ n. c (q + n)) ≡ true =
    good_ext _ (last_frame (h ++ y)) (λ n u v. let i : q + n - 1 ≡ q + (n - 1) = omega arith in ap (λ (k : ℕ). get_or (h ++ y) k 0) i) ∙ eb.1 in
    let r : p + 128 ≤ q = apart c p q fa fb (omega arith) in
    omega arith

-- at the second of two frames handed over, at least 128 more bits have come
pub heard_apart : (ls : List ℕ) (l : ℕ) (ms : List ℕ) (m : ℕ)
    → (heard_of (run ls) l).frame ≡ true → (heard_of (run ((ls ++ l ∷ []) ++ ms)) m).frame ≡ true
    → length (decoded (ls ++ l ∷ [])) + 128 ≤ length (decoded (((ls ++ l ∷ []) ++ ms) ++ m ∷ []))
heard_apart ls l ms m f g =
    let a = frame_means ls l f in
    let b = frame_means ((ls ++ l ∷ []) ++ ms) m g in
    let y = later (kept ls) (kept ms) l m in
    let e₁ : kept (ls ++ l ∷ []) ≡ kept ls ++ l ∷ [] = kept_snoc ls l a.0 in
    let e₂ : kept (((ls ++ l ∷ []) ++ ms) ++ m ∷ []) ≡ (kept ls ++ l ∷ []) ++ (kept ms ++ m ∷ []) =
    kept_snoc ((ls ++ l ∷ []) ++ ms) m b.0
    ∙ ap (λ (u : List ℕ). u ++ m ∷ []) (kept_append (ls ++ l ∷ []) ms ∙ ap (λ (u : List ℕ). u ++ kept ms) e₁)
    ∙ append_assoc (kept ls ++ l ∷ []) (kept ms) (m ∷ []) in
    let h₁ : decoded (ls ++ l ∷ []) ≡ bits_of (kept ls ++ l ∷ []) = ap bits_of e₁ in
    let h₂ : decoded (((ls ++ l ∷ []) ++ ms) ++ m ∷ []) ≡ bits_of (kept ls ++ l ∷ []) ++ y.0 = ap bits_of e₂ ∙ y.1 in
    let t = two_apart (bits_of (kept ls ++ l ∷ [])) y.0 y.2 (sym (ap ends_good h₁) ∙ a.1) (sym (ap ends_good h₂) ∙ b.1) in
    omega (arith, ap length h₁, ap length h₂)

-- ---- swapping the two wires changes nothing that is answered

-- the answer without the state
abbrev pub said : Heard → (Refusal × Bool × List ℕ)
said h = (h.refusal, h.frame, h.image)

-- the same by the test of the level and the bits decoded
abbrev say_told : Bool → List ℕ → (Refusal × Bool × List ℕ)
say_told t bits = said (pick t (told_refused []) (told_of [] bits))

said_told : (ls : List ℕ) (l : ℕ) → said (heard_of (run ls) l) ≡ say_told (refused l) (decoded (ls ++ l ∷ []))
said_told ls l = ap said (demand3 ls l) ∙ go (refused l)
  where
    go : (t : Bool) → said (pick t (told_refused ls) (told_of (ls ++ l ∷ []) (decoded (ls ++ l ∷ [])))) ≡ say_told t (decoded (ls ++ l ∷ []))
    go true = refl
    go false = refl

snoc_swap : (ls : List ℕ) (l : ℕ) → map swap ls ++ swap l ∷ [] ≡ map swap (ls ++ l ∷ [])
snoc_swap [] l = refl
snoc_swap (x ∷ ls) l = ap (λ (t : List ℕ). swap x ∷ t) (snoc_swap ls l)

pub wires_swapped : (ls : List ℕ) (l : ℕ) → said (heard_of (run (map swap ls)) (swap l)) ≡ said (heard_of (run ls) l)
wires_swapped ls l =
    said_told (map swap ls) (swap l)
    ∙ ap₂ say_told (refused_swap l) (ap decoded (snoc_swap ls l) ∙ decoded_swap (ls ++ l ∷ []))
    ∙ sym (said_told ls l)

-- ---- what is sent is heard

module _ (image : List ℕ) (previous : ℕ) (buffer : List ℕ) (sent : send_refusal image previous buffer ≡ numbered success) where
  -- what success says of the input
  passed : Passed (send_checks image previous buffer)
  unfolding send_refusal
  passed = success_passed (send_checks image previous buffer) refl (ap (λ (r : Refusal). r.number) sent)

  size : length image ≡ 16
  size = eqb-true _ _ passed.0

  level : previous ≤ 1
  level = ltb-false 1 previous (not-true _ passed.1.1.0)

  good_image : good_frame (bit_at image) ≡ true
  unfolding good_frame
  good_image = let p = passed.1.1.1 in λ i. both (p.0 i) (both (p.1.0 i) (p.1.1.0 i))

  -- the image's bits as a list are its frame
  pub image_frame : (n : ℕ) → 1 ≤ n → n ≤ 128 → frame_in (image_bits image) n ≡ bit_at image n
  image_frame n h l =
      let e : n - 1 + 1 ≡ n = omega arith in get_or-tab (λ i. bit_at image (i + 1)) 128 (n - 1) (omega arith) ∙ ap (bit_at image) e

  levels_sent : send_levels image previous buffer ≡ levels_after previous (image_bits image)
  unfolding send_levels
  levels_sent = given (send_refusal image previous buffer) _ _ (ap (λ (r : Refusal). r.number) sent)

  image_bits_lem : Bits (image_bits image)
  image_bits_lem = bits_tab (λ i. bit_at image (i + 1)) 128 (λ i. omega (arith, bit_lt image (i + 1)))

  -- the previous level and then those that `send` wrote are levels, and decode to the image's bits
  pub sent_levels : Bits (previous ∷ send_levels image previous buffer)
  sent_levels = rw levels_sent (more level (levels_bits previous (image_bits image) level))

  pub sent_bits : decoded (previous ∷ send_levels image previous buffer) ≡ image_bits image
  sent_bits = ap bits_of (kept_all sent_levels) ∙ rw levels_sent (told_bits previous level image_bits_lem)

  -- a fresh receiver given these hands over the same image on the last
  pub sent_heard : AreOctets image → (ls : List ℕ) (l : ℕ) → ls ++ l ∷ [] ≡ previous ∷ send_levels image previous buffer
      → heard_of (run ls) l ≡ handed (ls ++ l ∷ []) image
  sent_heard octet ls l e =
      let all : Bits (ls ++ l ∷ []) = rw e sent_levels in
      let good : good_frame (frame_in (image_bits image)) ≡ true =
      good_ext _ _ image_frame ∙ good_image in
      heard_on_last_bit ls l [] (image_bits image) (bits_last ls l all) (ap decoded e ∙ sent_bits) (length_tab _ 128) good
      ∙ ap (handed (ls ++ l ∷ [])) (octets_ext 16 _ _ image_frame ∙ octets_bits image 16 size octet)
