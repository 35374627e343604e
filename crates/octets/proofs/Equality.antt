-- THE EQUALITY of 02, item 5: over any run of octets the octet receiver hands over just what the first receiver hands over when its
-- levels, noise and refused levels among them, decode to the same bits, and after the same bit. Assumes nothing.
use mathlib.Core.Path.{◌≡◌, refl, sym, ap, ap₂, subst, ◌∙◌}
use mathlib.Core.Bool.{Bool, true, false}
use mathlib.Core.List.{List, [], ◌∷◌, ◌++◌}
use Prim.Native.Nat.{ℕ, zero, suc, ◌+◌, ◌-◌, ◌*◌, ◌/◌, ◌^◌, ◌≤◌, ◌<◌}
use native.Mathlib.Nat.{mod-lt, add-suc}
use native.Mathlib.Omega.{arith}
use borrow.Author.Tests.{lt-ltb, eqb-true, eq-eqb, ne_eqb}
use lib.Dec.{eqb, lit<}
use lib.ListN.{get_or}
use Rattle.bits.specs.Tests.{pick, both}
use Rattle.bits.specs.Numbers.{tab}
use Rattle.bits.specs.Octets.{AreOctets, bit_at}
use Rattle.line.specs.Levels.{decoded}
use Rattle.line.specs.Machine.{no_image, handed_of, heard_of, run}
use Rattle.line.specs.declared.Handed.{Handed}
use Rattle.line.specs.declared.Window.{Window}
use Rattle.bits.proofs.TestLaws.{both_true, both_false, clash}
use Rattle.bits.proofs.NumberLaws.{tab_more}
use Rattle.bits.proofs.OctetLaws.{bit_in}
use Rattle.line.proofs.WindowLaws.{val_from, val_snoc, Low, window_of, low_is}
use Rattle.line.proofs.Holding.{idle, run_window, heard_answer}
use Rattle.octets.specs.Feeding.{taken, ends_at, last_that, end_bit, answer_at, fed_to, heard_at}
use Rattle.octets.specs.ToldOctets.{first_bits, handed_by, framed_at, handed_at}
use Rattle.octets.specs.declared.HeardOctet.{HeardOctet}
use Rattle.octets.proofs.TakeLaws.{one_more, taken_low}
use Rattle.octets.proofs.AnswerLaws.{bit_is}

-- ---- what the octet receiver holds

-- the number of the first 8 k + j bits, by that of the first 8 k
val_octet : (a : ℕ) (octets : List ℕ) (k : ℕ) → get_or octets k 0 < 256 → (j : ℕ) → j ≤ 8
    → val_from a (first_bits octets (8 * k + j)) ≡ val_from a (first_bits octets (8 * k)) * 2 ^ j + get_or octets k 0 / 2 ^ (8 - j)
val_octet a octets k h zero l =
    let e : 8 * k + 0 ≡ 8 * k = omega arith in
    ap (λ (n : ℕ). val_from a (first_bits octets n)) e ∙ omega arith
val_octet a octets k h (suc j) l =
    let v = val_from a (first_bits octets (8 * k)) in
    ap (λ (n : ℕ). val_from a (first_bits octets n)) (add-suc (8 * k) j)
    ∙ ap (val_from a) (tab_more (λ i. bit_at octets (i + 1)) (8 * k + j))
    ∙ val_snoc a (first_bits octets (8 * k + j)) (bit_at octets (8 * k + j + 1))
    ∙ ap₂ (λ (m n : ℕ). m * 2 + n) (val_octet a octets k h j (omega arith)) (bit_in octets k j (omega arith))
    ∙ one_more v (get_or octets k 0) j (omega arith)

module _ (octets : List ℕ) (small : AreOctets octets) where
  -- a window that holds the first 8 k bits, with j bits more
  more_low : (w : Window) (k j : ℕ) → j ≤ 8 → Low w (val_from idle (first_bits octets (8 * k)))
      → Low (taken w (get_or octets k 0) j) (val_from idle (first_bits octets (8 * k + j)))
  more_low w k j l h =
      subst (Low (taken w (get_or octets k 0) j)) (sym (val_octet idle octets k (small k) j l))
      (taken_low w (val_from idle (first_bits octets (8 * k))) (get_or octets k 0) h (small k) j l)

  -- the receiver holds the bits of the octets that have come
  fed_low : (k : ℕ) → Low (fed_to octets k).window (val_from idle (first_bits octets (8 * k)))
  unfolding fed_to tab
  fed_low zero = record { older = refl; newer = refl }
  fed_low (suc k) =
      let e : 8 * k + 8 ≡ 8 * suc k = omega arith in
      subst (λ (n : ℕ). Low (fed_to octets (suc k)).window (val_from idle (first_bits octets n))) e
      (more_low (fed_to octets k).window k 8 (omega arith) (fed_low k))

  -- after the same bits both receivers hold the same window
  pub windows_same : (ls : List ℕ) (k j : ℕ) → j ≤ 8 → decoded ls ≡ first_bits octets (8 * k + j)
      → (run ls).window ≡ taken (fed_to octets k).window (get_or octets k 0) j
  windows_same ls k j l e =
      low_is (run ls).window (val_from idle (decoded ls)) (run_window ls)
      ∙ ap (λ (bits : List ℕ). window_of (val_from idle bits)) e
      ∙ sym (low_is _ _ (more_low (fed_to octets k).window k j l (fed_low k)))

  fed_older : (k : ℕ) → (fed_to octets k).window.older < 2 ^ 64
  fed_older k = subst (λ (n : ℕ). n < 2 ^ 64) (sym (fed_low k).older) (mod-lt _ (lit< tt))

  fed_newer : (k : ℕ) → (fed_to octets k).window.newer < 2 ^ 64
  fed_newer k = subst (λ (n : ℕ). n < 2 ^ 64) (sym (fed_low k).newer) (mod-lt _ (lit< tt))

-- ---- what it answers at a bit

last_passes : (f : ℕ → Bool) (n j : ℕ) → 1 ≤ j → last_that f n ≡ j → f j ≡ true
unfolding last_that
last_passes f zero j h e = absurd (omega arith)
last_passes f (suc n) j h e = go (f (suc n)) refl (last_passes f n j h)
  where
    go : (t : Bool) → f (suc n) ≡ t → (last_that f n ≡ j → f j ≡ true) → f j ≡ true
    go true q ih =
        let x : suc n ≡ j = sym (ap (λ (t : Bool). pick t (suc n) (last_that f n)) q) ∙ e in
        ap f (sym x) ∙ q
    go false q ih = ih (sym (ap (λ (t : Bool). pick t (suc n) (last_that f n)) q) ∙ e)

bit_passes : (w : Window) (o j : ℕ) → 1 ≤ j → end_bit w o ≡ j → ends_at w o j ≡ true
unfolding end_bit
bit_passes w o j h e = last_passes (ends_at w o) 8 j h e

-- at bit j it hands over what the window holds with j bits more
answer_at_lem : (w : Window) (o : ℕ) → w.older < 2 ^ 64 → w.newer < 2 ^ 64 → o < 256 → (j : ℕ) → 1 ≤ j → j ≤ 8
    → handed_at (answer_at w o (end_bit w o)) j ≡ handed_of (taken w o j)
answer_at_lem w o a b octet j p q = go (ends_at w o j) refl
  where
    go : (t : Bool) → ends_at w o j ≡ t → handed_at (answer_at w o (end_bit w o)) j ≡ handed_of (taken w o j)
    go true g = rw (bit_is w o a b octet j p q g, g, lt-ltb 0 j p, eq-eqb j j refl)
    go false g = rw (ne_eqb (end_bit w o) j (λ e. clash (bit_passes w o j p e) g), both_false, g)

-- an answer that hands over a frame at bit j
pub handed_means : (h : HeardOctet) (j : ℕ) {image : List ℕ} → handed_at h j ≡ record { frame = true; image = image }
    → (h.frame ≡ true) × (h.bit ≡ j) × (h.image ≡ image)
handed_means h j e =
    let g : framed_at h j ≡ true = ap (λ (x : Handed). x.frame) e in
    let p = both_true {a = h.frame} {b = eqb h.bit j} g in
    (p.0, eqb-true _ _ p.1, sym (ap (λ (t : Bool). pick t h.image no_image) g) ∙ ap (λ (x : Handed). x.image) e)

-- ---- the equality

-- For any run of octets, and levels whose decoded bits are the bits of octets 0 to k - 1 and then the first j bits of octet k: at its
-- last level the first receiver hands over what the octet receiver hands over at bit j of octet k.
module _ (octets : List ℕ) (small : AreOctets octets) (ls : List ℕ) (l k j : ℕ) (level : l ≤ 1) (least : 1 ≤ j) (most : j ≤ 8)
    (same : decoded (ls ++ l ∷ []) ≡ first_bits octets (8 * k + j)) where
  pub equality : handed_by (heard_of (run ls) l) ≡ handed_at (heard_at octets k) j
  equality =
      ap handed_by (heard_answer ls l level)
      ∙ ap handed_of (windows_same octets small (ls ++ l ∷ []) k j most same)
      ∙ sym (answer_at_lem (fed_to octets k).window (get_or octets k 0) (fed_older octets small k) (fed_newer octets small k) (small k) j least most)

  -- the same in words: if the first receiver hands over a frame, the octet receiver answers bit j and the same sixteen octets
  pub heard_by_octet : (heard_of (run ls) l).frame ≡ true
      → ((heard_at octets k).frame ≡ true) × ((heard_at octets k).bit ≡ j) × ((heard_at octets k).image ≡ (heard_of (run ls) l).image)
  heard_by_octet f =
      handed_means (heard_at octets k) j (sym equality ∙ ap (λ (t : Bool). record { frame = t; image = (heard_of (run ls) l).image }) f)

  -- and if the octet receiver answers bit j, the first receiver hands over a frame, the same sixteen octets
  pub heard_by_level : (heard_at octets k).frame ≡ true → (heard_at octets k).bit ≡ j
      → ((heard_of (run ls) l).frame ≡ true) × ((heard_of (run ls) l).image ≡ (heard_at octets k).image)
  heard_by_level f b =
      let g : framed_at (heard_at octets k) j ≡ true = ap₂ both f (eq-eqb (heard_at octets k).bit j b) in (
        ap (λ (h : Handed). h.frame) equality ∙ g,
        ap (λ (h : Handed). h.image) equality ∙ ap (λ (t : Bool). pick t (heard_at octets k).image no_image) g,
      )
