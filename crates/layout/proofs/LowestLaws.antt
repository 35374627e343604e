-- The lowest bit at which two numbers differ: that there is one, one only, and that it is a count of zeros. Assumes nothing.
use mathlib.Core.Path.{◌≡◌, refl, sym, ap, ap₂, ◌∙◌, subst}
use mathlib.Core.Bool.{Bool, true, false}
use Prim.Native.Nat.{ℕ, zero, suc, ◌+◌, ◌*◌, ◌/◌, ◌%◌, ◌^◌, ◌≤◌, ◌<◌}
use native.Mathlib.Nat.{div-one, div-add-mod', mod-lt, le_of_suc-le-suc, lt_of_lt_of_le}
use native.Mathlib.Numerals.{add-one, one-add}
use native.Mathlib.Omega.{arith}
use borrow.Author.Tests.{eqb-true, eqb-false}
use lib.Dec.{eqb, lit<}
use lib.Pow.{pow_mono, shr-shr, shr_lt}
use lib.Bits.{bit_xor, xor_mod, xor_shr}
use lib.Count.{count_trailing_zeros, under}
use Rattle.bits.specs.Tests.{pick}
use Rattle.layout.specs.Trouble.{agreeing}
use Rattle.bits.proofs.TestLaws.{by_lt}

-- the bit of weight 2 ^ i is the lowest at which n and x differ
pub record Lowest (n x i : ℕ) : Type 0 where
  pub apart : n / 2 ^ i % 2 ≡ x / 2 ^ i % 2 → ⊥
  pub below : (j : ℕ) → j < i → n / 2 ^ j % 2 ≡ x / 2 ^ j % 2

lowest_one : {n x i j : ℕ} → Lowest n x i → Lowest n x j → i ≡ j
lowest_one {i = i} {j = j} a b =
    by_lt i j (λ l. absurd (a.apart (b.below i l)))
    (λ g. by_lt j i (λ l. absurd (b.apart (a.below j l))) (λ h. omega arith))

half_bit : (n i : ℕ) → n / 2 ^ suc i % 2 ≡ n / 2 / 2 ^ i % 2
half_bit n i = ap (λ (m : ℕ). m % 2) (ap (λ (e : ℕ). n / 2 ^ e) (sym (one-add i)) ∙ sym (shr-shr n 1 i))

low_bit : (n : ℕ) → n / 2 ^ 0 % 2 ≡ n % 2
low_bit n = ap (λ (m : ℕ). m % 2) (div-one n)

half_lt : (n d : ℕ) → n < 2 ^ suc d → n / 2 < 2 ^ d
half_lt n d h = shr_lt d 1 (subst (λ (e : ℕ). n < 2 ^ e) (sym (add-one d)) h)

whole : (n x : ℕ) → n % 2 ≡ x % 2 → n / 2 ≡ x / 2 → n ≡ x
whole n x p q = sym (div-add-mod' n 2) ∙ ap₂ (λ (a b : ℕ). a * 2 + b) q p ∙ div-add-mod' x 2

more : (n x i : ℕ) → n % 2 ≡ x % 2 → Lowest (n / 2) (x / 2) i → Lowest n x (suc i)
more n x i e l = record { apart = λ p. l.apart (sym (half_bit n i) ∙ p ∙ half_bit x i); below = under_it }
  where
    under_it : (j : ℕ) → j < suc i → n / 2 ^ j % 2 ≡ x / 2 ^ j % 2
    under_it zero h = low_bit n ∙ e ∙ sym (low_bit x)
    under_it (suc j) h = half_bit n j ∙ l.below j (le_of_suc-le-suc h) ∙ sym (half_bit x j)

none : (n x : ℕ) → (n % 2 ≡ x % 2 → ⊥) → Lowest n x 0
none n x h = record { apart = λ p. h (sym (low_bit n) ∙ p ∙ low_bit x); below = λ j l. absurd (omega arith) }

pub agreeing_lowest : (d n x : ℕ) → n < 2 ^ d → x < 2 ^ d → (n ≡ x → ⊥) → Lowest n x (agreeing d n x)
unfolding agreeing
agreeing_lowest zero n x h k ne = absurd (ne (omega arith))
agreeing_lowest (suc d) n x h k ne = go (eqb (n % 2) (x % 2)) refl (λ q. agreeing_lowest d (n / 2) (x / 2) (half_lt n d h) (half_lt x d k) q)
  where
    go : (b : Bool) → eqb (n % 2) (x % 2) ≡ b → ((n / 2 ≡ x / 2 → ⊥) → Lowest (n / 2) (x / 2) (agreeing d (n / 2) (x / 2)))
        → Lowest n x (pick b (suc (agreeing d (n / 2) (x / 2))) 0)
    go true e rest = let p : n % 2 ≡ x % 2 = eqb-true _ _ e in more n x _ p (rest (λ q. ne (whole n x p q)))
    go false e rest = none n x (eqb-false _ _ e)

-- more bits to look at change nothing
pub agreeing_enough : (k d n x : ℕ) → k ≤ d → n < 2 ^ k → x < 2 ^ k → (n ≡ x → ⊥) → agreeing d n x ≡ agreeing k n x
agreeing_enough k d n x l h g ne =
    lowest_one (agreeing_lowest d n x (lt_of_lt_of_le h (pow_mono l)) (lt_of_lt_of_le g (pow_mono l)) ne) (agreeing_lowest k n x h g ne)

-- ---- it is the number of zeros below the lowest one of the two numbers' xor

digit : (a b t : ℕ) → a < 2 → b < 2 → under (bit_xor a b) t ≡ pick (eqb a b) (suc t) 0
digit zero zero t h k = refl
digit zero (suc zero) t h k = refl
digit zero (suc (suc b)) t h k = absurd (omega arith)
digit (suc zero) zero t h k = refl
digit (suc zero) (suc zero) t h k = refl
digit (suc zero) (suc (suc b)) t h k = absurd (omega arith)
digit (suc (suc a)) b t h k = absurd (omega arith)

pub zeros_agreeing : (d n x : ℕ) → count_trailing_zeros d (bit_xor n x) ≡ agreeing d n x
unfolding count_trailing_zeros agreeing
zeros_agreeing zero n x = refl
zeros_agreeing (suc d) n x =
    ap₂ under (xor_mod n x 1) (ap (count_trailing_zeros d) (xor_shr n x 1) ∙ zeros_agreeing d (n / 2) (x / 2))
    ∙ digit (n % 2) (x % 2) (agreeing d (n / 2) (x / 2)) (mod-lt n (lit< tt)) (mod-lt x (lit< tt))
