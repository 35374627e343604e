-- `line::hand_over` meets its contract. Assumes nothing.
use mathlib.Core.Bool.{Bool, true, false}
use mathlib.Core.List.{List}
use mathlib.Core.Path.{◌≡◌, refl, sym, ap, ◌∙◌}
use Prim.Native.Nat.{ℕ, ◌/◌, ◌%◌, ◌^◌, ◌<◌}
use native.Mathlib.Nat.{mod-lt, mod-eq_of_lt}
use native.Mathlib.Omega.{arith}
use borrow.Author.Rules.{rules}
use borrow.Author.Tests.{eq-eqb, ne_eqb}
use lib.Dec.{eqb, lit<}
use lib.Pow.{shr_lt, shr-shr, field}
use Rattle.bits.specs.Octets.{bit_at}
use Rattle.frame.specs.Frame.{good_frame, verdict_of}
use Rattle.line.specs.Machine.{window_image, holds_frame, handed_of, nothing_handed}
use Rattle.line.specs.declared.Handed.{Handed}
use Rattle.line.specs.declared.Window.{Window}
use Rattle.refusal.specs.Refusals.{success}
use Rattle.refusal.specs.declared.Refusal.{Refusal}
use Rattle.bits.proofs.TestLaws.{never_true}
use Rattle.refusal.proofs.CheckLaws.{answer_is, answer_not}
use Rattle.frame.proofs.FrameLaws.{verdict_good, verdict_image, start_octet, mark_one}
use Rattle.line.proofs.hand_over.Goals as goal

abbrev good : Refusal → Bool
good r = eqb r.number success

-- a frame is held where the verdict on the window's image is success
holds_is : (w : Window) (image : List ℕ) (t : Bool) → image ≡ window_image w → eqb (verdict_of image).number success ≡ t → holds_frame w ≡ t
unfolding holds_frame
holds_is w image t e v =
    sym (verdict_good (bit_at (window_image w))) ∙ ap good (sym (verdict_image (window_image w) refl))
    ∙ ap (λ (l : List ℕ). good (verdict_of l)) (sym e) ∙ v

-- the first nine bits of a window that is a good frame are eight zeros and a one
nine : (w : Window) → w.older < 2 ^ 64 → good_frame (bit_at (window_image w)) ≡ true → w.older / 2 ^ 55 ≡ 1
nine w fits e =
    let n = w.older in
    let start : n / 2 ^ 56 % 256 ≡ 0 = start_octet (window_image w) e (mod-lt _ (lit< tt)) in
    let mark : n / 2 ^ 48 % 256 / 2 ^ 7 % 2 ≡ 1 = mark_one (bit_at (window_image w)) e 0 (lit< tt) in
    let m : n / 2 ^ 48 % 256 / 2 ^ 7 ≡ n / 2 ^ 55 % 2 = field (n / 2 ^ 48) 1 7 ∙ ap (λ (k : ℕ). k % 2) (shr-shr n 48 7) in
    digits (n / 2 ^ 55) (shr_lt 9 55 fits) (ap (λ (k : ℕ). k % 256) (shr-shr n 55 1) ∙ start) (sym (ap (λ (k : ℕ). k % 2) m) ∙ mark)
  where
    digits : (y : ℕ) → y < 512 → y / 2 % 256 ≡ 0 → y % 2 % 2 ≡ 1 → y ≡ 1
    digits y h p q =
        let small : y / 2 < 256 = omega arith in
        let none : y / 2 ≡ 0 = sym (mod-eq_of_lt small) ∙ p in
        omega arith

-- a window that begins otherwise holds none
not_begun : (w : Window) → w.older < 2 ^ 64 → (w.older / 2 ^ 55 ≡ 1 → ⊥) → holds_frame w ≡ false
unfolding holds_frame
not_begun w fits h = never_true _ (λ e. h (nine w fits e))

none_is : (w : Window) → holds_frame w ≡ false → nothing_handed ≡ handed_of w
none_is w e = rw e

handed_is : (w : Window) (image : List ℕ) → holds_frame w ≡ true → image ≡ window_image w
    → ◌≡◌ {A = Handed} (record { frame = true; image = image }) (handed_of w)
handed_is w image e f = rw (e, f)

pub returns-then-window-ne1 : goal.returns-then-window-ne1
returns-then-window-ne1 c = c.hold_back.ensures ∙ none_is _ (not_begun _ (search rules) c.if-window-ne1.true)

pub returns-in-Ok : goal.returns-in-Ok
returns-in-Ok c =
    let i = c.image-image in
    handed_is _ _ (holds_is _ i.result true i.ensures (eq-eqb _ _ (answer_is tt _ _ (sym c.in-Ok.ensures)).0)) i.ensures

pub returns-in-Err : goal.returns-in-Err
returns-in-Err c =
    let i = c.image-image in
    let told = answer_not tt _ _ (sym c.in-Err.ensures) in
    c.hold_back-in-Err.ensures
    ∙ none_is _ (holds_is _ i.result false i.ensures (ne_eqb _ _ (λ z. told.1 (sym (ap (λ (r : Refusal). r.number) told.0) ∙ z))))
