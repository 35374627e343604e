-- The bits read through each frame's last are the positions that repeated search gives, each plus 128, in their order. Assumes nothing.
use mathlib.Core.Path.{◌≡◌, refl, sym, ap, ◌∙◌}
use mathlib.Core.Bool.{Bool, true, false}
use mathlib.Core.List.{List, [], ◌∷◌, ◌++◌, map, append-nil, append_assoc}
use Prim.Native.Nat.{ℕ, zero, suc, ◌+◌, ◌-◌, ◌*◌, ◌≤◌, ◌<◌}
use native.Mathlib.Omega.{arith}
use borrow.Author.Tests.{le-leb, le-ltb}
use lib.ListN.{length}
use Rattle.std.specs.Prelude.{Result, Ok, Err}
use Rattle.bits.specs.Tests.{both}
use Rattle.refusal.specs.declared.Refusal.{Refusal}
use Rattle.sieve.specs.Capture.{good_at, Least}
use Rattle.capture.specs.Search.{search_of}
use Rattle.sieve.proofs.SieveLaws.{good_whole}
use Rattle.capture.proofs.SearchLaws.{found_least, none_answered}
use Rattle.bits.proofs.TestLaws.{never_true}
use Rattle.hearing.specs.Ends.{ends_after, ends_to, ends_of, and_on, found_from}
use Rattle.hearing.specs.Hearing.{lines_of, hearing_of}
use Rattle.hearing.proofs.EndLaws.{ends_none, ends_one, ends_good_lem}

module _ (capture : List ℕ) where
  ends_at : (p : ℕ) → ends_after capture (p + 128) ≡ good_at capture p
  unfolding ends_after
  ends_at p =
      let e : p + 128 - 128 ≡ p = omega arith in
      ap (λ (t : Bool). both t (good_at capture (p + 128 - 128))) (le-leb 128 (p + 128) (omega arith)) ∙ ap (good_at capture) e

  none_short : (n : ℕ) → n < 128 → ends_after capture n ≡ false
  none_short n h = never_true _ (λ e. omega (arith, (ends_good_lem capture n e).0))

  none_past : (n : ℕ) → 8 * length capture < n → ends_after capture n ≡ false
  none_past n h = never_true _ (λ e. let p = ends_good_lem capture n e in omega (arith, p.0, good_whole capture (n - 128) p.1))

  -- where none is good at the d positions from a on
  none_from : (a d : ℕ) → ((p : ℕ) → a ≤ p → p < a + d → good_at capture p ≡ false) → (n : ℕ) → a + 127 < n → n ≤ a + 127 + d → ends_after capture n ≡ false
  none_from a d h n p q =
      let e : n - 128 + 128 ≡ n = omega arith in
      ap (ends_after capture) (sym e) ∙ ends_at (n - 128) ∙ h (n - 128) (omega arith) (omega arith)

  module _ (short : length capture ≤ 65536) where
    -- from a start on: the numbers up to start + 127 belong to frames that begin before it
    from_start : (searches start : ℕ) → start ≤ 8 * length capture → 8 * length capture < searches + start
        → ends_to capture (8 * length capture + 127) ≡ ends_to capture (start + 127) ++ map (λ (p : ℕ). p + 128) (found_from capture searches start)
    unfolding found_from
    from_start zero start inside enough = absurd (omega arith)
    from_start (suc n) start inside enough = go (search_of capture start) refl (λ p a b. from_start n (p + 1) a b)
      where
        go : (f : Result ℕ Refusal) → search_of capture start ≡ f
            → ((p : ℕ) → p + 1 ≤ 8 * length capture → 8 * length capture < n + (p + 1)
            → ends_to capture (8 * length capture + 127) ≡ ends_to capture (p + 1 + 127) ++ map (λ (p : ℕ). p + 128) (found_from capture n (p + 1)))
            → ends_to capture (8 * length capture + 127)
            ≡ ends_to capture (start + 127) ++ map (λ (p : ℕ). p + 128) (and_on (search_of capture start) (found_from capture n))
        go (Err r) s ih =
            let d = 8 * length capture - start in
            let e : start + 127 + d ≡ 8 * length capture + 127 = omega arith in
            rw s
            (ap (ends_to capture) (sym e)
            ∙ ends_none capture (start + 127) d (none_from start d (λ q l m. none_answered capture start short inside r s q l))
            ∙ sym (append-nil (ends_to capture (start + 127))))
        go (Ok p) s ih =
            let f : Least capture start p = found_least capture start p s in
            let w : p + 128 ≤ 8 * length capture = good_whole capture p f.1 in
            let d = p - start in
            let from : start ≤ p = f.0 in
            let e : start + 127 + (d + 1) ≡ p + 128 = omega arith in
            let e₂ : p + 1 + 127 ≡ p + 128 = omega arith in
            let here : ends_after capture (start + 127 + (d + 1)) ≡ true = ap (ends_after capture) e ∙ ends_at p ∙ f.1 in
            let one : ends_to capture (p + 128) ≡ ends_to capture (start + 127) ++ (p + 128) ∷ [] =
            ap (ends_to capture) (sym e)
            ∙ ends_one capture (start + 127) (d + 1) (omega arith) here (λ n a b. none_from start d (λ q l m. f.2 q l (omega arith)) n a (omega arith))
            ∙ ap (λ (n : ℕ). ends_to capture (start + 127) ++ n ∷ []) e in
            rw s
            (ih p (omega arith) (omega arith)
            ∙ ap (λ (m : ℕ). ends_to capture m ++ map (λ (p : ℕ). p + 128) (found_from capture n (p + 1))) e₂
            ∙ ap (λ (l : List ℕ). l ++ map (λ (p : ℕ). p + 128) (found_from capture n (p + 1))) one
            ∙ append_assoc (ends_to capture (start + 127)) ((p + 128) ∷ []) (map (λ (p : ℕ). p + 128) (found_from capture n (p + 1))))

    -- The numbers of a whole capture are the positions that repeated search from 0 gives, each plus 128, in their order. More
    -- searches than the capture has bits are enough, and give no more.
    pub ends_searched : (searches : ℕ) → 8 * length capture < searches → ends_of capture ≡ map (λ (p : ℕ). p + 128) (found_from capture searches 0)
    unfolding ends_to
    ends_searched searches enough =
        sym (ends_none capture (8 * length capture) 127 (λ n a b. none_past n a))
        ∙ from_start searches 0 (omega arith) (omega arith)
        ∙ ap (λ (l : List ℕ). l ++ map (λ (p : ℕ). p + 128) (found_from capture searches 0)) (ends_none capture 0 127 (λ n a b. none_short n (omega arith)))

    -- so what is written of a capture are their lines
    pub lines_searched : (searches : ℕ) → 8 * length capture < searches → hearing_of capture ≡ lines_of (map (λ (p : ℕ). p + 128) (found_from capture searches 0))
    unfolding hearing_of
    lines_searched searches enough = rw (le-ltb 65536 (length capture) short) (ap lines_of (ends_searched searches enough))
