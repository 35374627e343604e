-- The window with the first bits of an octet more: by shifts, and as a part of seventeen octets. Assumes nothing.
use mathlib.Core.Path.{◌≡◌, sym, ap, ap₂, subst, ◌∙◌}
use mathlib.Core.List.{List, [], ◌∷◌, ◌++◌}
use Prim.Native.Nat.{ℕ, zero, suc, ◌+◌, ◌-◌, ◌*◌, ◌/◌, ◌%◌, ◌^◌, ◌≤◌, ◌<◌}
use native.Mathlib.Nat.{mod-lt, mul_assoc, add_assoc, add-mul, pow-suc}
use native.Mathlib.Omega.{arith}
use lib.ListN.{get_or, get_or-append}
use lib.Pow.{pow_pos, pow-add, shr_lt, shr-shr, high, low, split}
use Rattle.bits.specs.Octets.{bit_at}
use Rattle.bits.proofs.TestLaws.{by_lt}
use Rattle.bits.proofs.NumberLaws.{low_bit}
use Rattle.line.specs.Machine.{pushed_by, window_image}
use Rattle.line.specs.declared.Window.{Window}
use Rattle.line.proofs.WindowLaws.{Low, newer_by, older_by, push_low, low_is, low_self, window_bit}
use Rattle.octets.specs.Feeding.{taken}

-- ---- the number of the bits taken

-- one bit more of an octet after a number
pub one_more : (v o j : ℕ) → j < 8 → (v * 2 ^ j + o / 2 ^ (8 - j)) * 2 + o / 2 ^ (7 - j) % 2 ≡ v * 2 ^ suc j + o / 2 ^ (8 - suc j)
one_more v o j h =
    let t = o / 2 ^ (7 - j) in
    let e₁ : 8 - j ≡ 7 - j + 1 = omega arith in
    let e₂ : 8 - suc j ≡ 7 - j = omega arith in
    let a : o / 2 ^ (8 - j) ≡ t / 2 = ap (λ (n : ℕ). o / 2 ^ n) e₁ ∙ sym (shr-shr o (7 - j) 1) in
    let b : o / 2 ^ (8 - suc j) ≡ t = ap (λ (n : ℕ). o / 2 ^ n) e₂ in
    let c : v * 2 ^ suc j ≡ v * 2 ^ j * 2 = ap (λ (n : ℕ). v * n) (pow-suc 2 j) ∙ sym (mul_assoc v (2 ^ j) 2) in
    omega (arith, a, b, c)

pub taken_low : (w : Window) (v o : ℕ) → Low w v → o < 256 → (j : ℕ) → j ≤ 8 → Low (taken w o j) (v * 2 ^ j + o / 2 ^ (8 - j))
unfolding taken
taken_low w v o l h zero k =
    let e : v ≡ v * 2 ^ 0 + o / 2 ^ 8 = omega arith in
    subst (Low w) e l
taken_low w v o l h (suc j) k =
    subst (Low (taken w o (suc j))) (one_more v o j (omega arith))
    (push_low (taken w o j) (v * 2 ^ j + o / 2 ^ (8 - j)) (o / 2 ^ (7 - j) % 2) (omega arith) (taken_low w v o l h j (omega arith)))

-- ---- at once

-- the first j bits of an octet, as a number
pub first_lt : (o j : ℕ) → o < 256 → j ≤ 8 → o / 2 ^ (8 - j) < 2 ^ j
first_lt o j h few =
    let f : 8 ≡ j + (8 - j) = omega arith in
    shr_lt j (8 - j) (subst (λ (n : ℕ). o < 2 ^ n) f h)

-- the window with these bits more at once is that with one more after the other
pub take_is : (w : Window) (o j : ℕ) → w.older < 2 ^ 64 → w.newer < 2 ^ 64 → o < 256 → 1 ≤ j → j ≤ 8
    → pushed_by w (o / 2 ^ (8 - j)) j ≡ taken w o j
take_is w o j a b h one few =
    let v = w.older * 2 ^ 64 + w.newer in
    let u = o / 2 ^ (8 - j) in
    let l = low_self w a b in
    let q : u < 2 ^ j = first_lt o j h few in
    (λ i. record { older = l.older i % 2 ^ (64 - j) * 2 ^ j + l.newer i / 2 ^ (64 - j); newer = l.newer i % 2 ^ (64 - j) * 2 ^ j + u })
    ∙ sym (low_is (taken w o j) (v * 2 ^ j + u) (taken_low w v o l h j few)
    ∙ (λ i. record { older = older_by v u j (omega arith) q i; newer = newer_by v u j (omega arith) q i }))

-- ---- a part of seventeen octets: the sixteen that are held, and the new one behind them

abbrev pub seventeen : Window → ℕ → List ℕ
seventeen w o = window_image w ++ o ∷ []

module _ (w : Window) (v o : ℕ) (l : Low w v) (octet : o < 256) where
  seventeen_bit : (m : ℕ) → 1 ≤ m → m ≤ 136 → bit_at (seventeen w o) m ≡ (v * 2 ^ 8 + o) / 2 ^ (136 - m) % 2
  seventeen_bit m a b =
      by_lt 128 m
      (λ new.
      let e₁ : (m - 1) / 8 ≡ 16 = omega arith in
      let e₂ : 7 - (m - 1) % 8 ≡ 136 - m = omega arith in
      ap₂ (λ (x y : ℕ). get_or (seventeen w o) x 0 / 2 ^ y % 2) e₁ e₂
      ∙ ap (λ (n : ℕ). n / 2 ^ (136 - m) % 2) (sym (low v 8 octet))
      ∙ low_bit (v * 2 ^ 8 + o) 8 (136 - m) (omega arith))
      (λ old.
      let e : 136 - m ≡ 8 + (128 - m) = omega arith in
      ap (λ (n : ℕ). n / 2 ^ (7 - (m - 1) % 8) % 2) (get_or-append (window_image w) (o ∷ []) 0 ((m - 1) / 8) (omega arith))
      ∙ window_bit w v l m a old
      ∙ ap (λ (n : ℕ). n / 2 ^ (128 - m) % 2) (sym (high v 8 octet))
      ∙ ap (λ (n : ℕ). n % 2) (shr-shr (v * 2 ^ 8 + o) 8 (128 - m) ∙ ap (λ (n : ℕ). (v * 2 ^ 8 + o) / 2 ^ n) (sym e)))

  -- the number with all eight bits, less those behind the first j
  part_of : (j : ℕ) → j ≤ 8 → (v * 2 ^ 8 + o) / 2 ^ (8 - j) ≡ v * 2 ^ j + o / 2 ^ (8 - j)
  part_of j k =
      let r = 8 - j in
      let e : 8 ≡ j + r = omega arith in
      let p : v * 2 ^ 8 ≡ v * 2 ^ j * 2 ^ r = ap (λ (n : ℕ). v * 2 ^ n) e ∙ ap (λ (n : ℕ). v * n) (pow-add 2 j r) ∙ sym (mul_assoc v (2 ^ j) (2 ^ r)) in
      let s : o / 2 ^ r * 2 ^ r + o % 2 ^ r ≡ o = split o r in
      ap (λ (n : ℕ). n / 2 ^ r)
      (ap₂ (λ (m n : ℕ). m + n) p (sym s)
      ∙ sym (add_assoc (v * 2 ^ j * 2 ^ r) (o / 2 ^ r * 2 ^ r) (o % 2 ^ r))
      ∙ ap (λ (n : ℕ). n + o % 2 ^ r) (sym (add-mul (v * 2 ^ j) (o / 2 ^ r) (2 ^ r))))
      ∙ high (v * 2 ^ j + o / 2 ^ r) r (mod-lt o (pow_pos r))

  -- the window with j bits more is the frame at position j of the seventeen octets
  pub taken_bit : (j : ℕ) → j ≤ 8 → (n : ℕ) → 1 ≤ n → n ≤ 128 → bit_at (window_image (taken w o j)) n ≡ bit_at (seventeen w o) (j + n)
  taken_bit j k n a b =
      let e : 136 - (j + n) ≡ 8 - j + (128 - n) = omega arith in
      window_bit (taken w o j) (v * 2 ^ j + o / 2 ^ (8 - j)) (taken_low w v o l octet j k) n a b
      ∙ ap (λ (m : ℕ). m / 2 ^ (128 - n) % 2) (sym (part_of j k))
      ∙ ap (λ (m : ℕ). m % 2) (shr-shr (v * 2 ^ 8 + o) (8 - j) (128 - n) ∙ ap (λ (m : ℕ). (v * 2 ^ 8 + o) / 2 ^ m) (sym e))
      ∙ sym (seventeen_bit (j + n) (omega arith) (omega arith))
