-- Laws of decimal text and of a line of numbers. Assumes nothing.
use mathlib.Core.Path.{◌≡◌, refl, sym, ap, ◌∙◌, subst, subst⁻¹}
use mathlib.Core.List.{List, [], ◌∷◌, ◌++◌, append_assoc, append-nil}
use Prim.Native.Nat.{ℕ, zero, suc, ◌+◌, ◌-◌, ◌*◌, ◌/◌, ◌%◌, ◌^◌, ◌≤◌, ◌<◌}
use native.Mathlib.Nat.{mul-suc, pow-suc, one-le-pow, pow-le-pow_right, not-suc-le-zero}
use native.Mathlib.Decide.{dec_lt}
use native.Mathlib.Numerals.{add-one, sub-one}
use native.Mathlib.Omega.{arith}
use borrow.Author.Tests.{lt-ltb, le-ltb}
use lib.ListN.{length, get_or, take, length-append}
use lib.Seq.{take-suc, take-length}
use Rattle.std.specs.Prelude.{false, ◌==◌}
use Rattle.std.proofs.lemmas.Grind.{common_steps}
use Rattle.std.specs.Fmt.{digits_onto, digits, decimal}
use Rattle.text.specs.Digits.{last_digits, IsDigitCount}
use Rattle.text.specs.Text.{dec_by, dec, dec_then, row}

-- ---- the digits of a number of which it is known how many there are

-- the least number of k + 2 digits is at most n
least : (k n : ℕ) → IsDigitCount 10 1 n (suc (suc k)) → 10 ^ suc k ≤ n
least k n w = subst (λ (j : ℕ). 10 ^ j ≤ n) (sub-one (suc (suc k))) (w.2 (omega arith))

digits_dec : (f k n : ℕ) → k < f → IsDigitCount 10 1 n (suc k) → last_digits 10 (suc k) n ≡ dec_by f n
unfolding dec_by
digits_dec zero k n h w = absurd (not-suc-le-zero h)
digits_dec (suc f) zero n h w =
    let small : n < 10 = w.1 in
    let e : n % 10 ≡ n = omega arith in
    simp (e, lt-ltb n 10 small)
digits_dec (suc f) (suc k) n h w =
    let g : 10 ^ suc k ≤ n = least k n w in
    let p : 1 ≤ 10 ^ k = one-le-pow k 10 (omega arith) in
    let ten : 10 ≤ n = omega (arith, pow-suc 10 k) in
    let last : n % 10 < 10 = omega arith in
    let upper : n / 10 < 10 ^ suc k = omega (arith, pow-suc 10 (suc k), w.1) in
    let lower : 10 ^ k ≤ n / 10 = omega (arith, pow-suc 10 k) in
    let ih : last_digits 10 (suc k) (n / 10) ≡ dec_by f (n / 10) =
    digits_dec f k (n / 10) (omega arith) (omega arith, upper, λ q. subst⁻¹ (λ (j : ℕ). 10 ^ j ≤ n / 10) (sub-one (suc k)) lower) in
    simp (ih, le-ltb n 10 ten, lt-ltb (n % 10) 10 last)

below_pow : (k : ℕ) → k < 10 ^ k
below_pow zero = omega arith
below_pow (suc k) = omega (arith, pow-suc 10 k, below_pow k)

pub decimal_dec : (k n : ℕ) → IsDigitCount 10 1 n k → last_digits 10 k n ≡ dec n
unfolding dec
decimal_dec zero n w = absurd (not-suc-le-zero w.0)
decimal_dec (suc zero) n w = digits_dec (suc n) zero n (omega arith) w
decimal_dec (suc (suc k)) n w =
    let g : 10 ^ suc k ≤ n = least k n w in
    digits_dec (suc n) (suc k) n (omega (arith, below_pow (suc k))) w

pub at_most_20 : (k n : ℕ) → IsDigitCount 10 1 n k → n < 2 ^ 64 → k ≤ 20
at_most_20 zero n w h = omega arith
at_most_20 (suc zero) n w h = omega arith
at_most_20 (suc (suc k)) n w h = go (dec_lt k 19)
  where
    go : Dec (k < 19) → suc (suc k) ≤ 20
    go (yes l) = omega arith
    go (no g) =
        let e : 10 ^ suc k ≤ n = least k n w in
        let l : 20 ≤ suc k = omega (arith, g) in
        absurd (omega (arith, pow-le-pow_right {n = 10} (omega arith) l))

-- ---- a number's text reads back as the number

-- the number that a text of digits is, after the number k
abbrev pub read_from : ℕ → List ℕ → ℕ
read_from k [] = k
read_from k (d ∷ ds) = read_from (k * 10 + (d - 48)) ds

read_append : (k : ℕ) (xs ys : List ℕ) → read_from k (xs ++ ys) ≡ read_from (read_from k xs) ys
read_append k [] ys = refl
read_append k (x ∷ xs) ys = read_append (k * 10 + (x - 48)) xs ys

read_by : (f n : ℕ) → n < f → read_from 0 (dec_by f n) ≡ n
unfolding dec_by
read_by zero n h = absurd (not-suc-le-zero h)
read_by (suc f) n h = go (dec_lt n 10) (λ l. read_by f (n / 10) l)
  where
    go : Dec (n < 10) → (n / 10 < f → read_from 0 (dec_by f (n / 10)) ≡ n / 10) → read_from 0 (dec_by (suc f) n) ≡ n
    go (yes l) ih = simp (lt-ltb n 10 l) (omega arith)
    go (no g) ih =
        let ten : 10 ≤ n = omega (arith, g) in
        let here : read_from 0 (dec_by f (n / 10)) ≡ n / 10 = ih (omega arith) in
        simp (le-ltb n 10 ten, read_append, here) (omega arith)

pub read_dec : (n : ℕ) → read_from 0 (dec n) ≡ n
unfolding dec
read_dec n = read_by (suc n) n (omega arith)

-- ---- a line of numbers, as it is put: all but the last with a space after each

unfoldable pub spaced : List ℕ → List ℕ
spaced [] = []
spaced (a ∷ xs) = dec_then a 32 ++ spaced xs

spaced_last : (xs : List ℕ) (a : ℕ) → spaced (xs ++ (a ∷ [])) ≡ spaced xs ++ dec_then a 32
unfolding spaced
spaced_last [] a = append-nil (dec_then a 32)
spaced_last (x ∷ xs) a = ap (λ (l : List ℕ). dec_then x 32 ++ l) (spaced_last xs a) ∙ sym (append_assoc (dec_then x 32) (spaced xs) (dec_then a 32))

row_last : (xs : List ℕ) (a : ℕ) → row (xs ++ (a ∷ [])) ≡ spaced xs ++ dec_then a 10
unfolding row spaced
row_last [] a = refl
row_last (x ∷ []) a = ap (λ (l : List ℕ). l ++ dec_then a 10) (sym (append-nil (dec_then x 32)))
row_last (x ∷ y ∷ xs) a =
    ap (λ (l : List ℕ). dec_then x 32 ++ l) (row_last (y ∷ xs) a) ∙ sym (append_assoc (dec_then x 32) (spaced (y ∷ xs)) (dec_then a 10))

pub spaced_none : (xs : List ℕ) → spaced (take 0 xs) ≡ []
unfolding spaced
spaced_none xs = refl

-- one number more
pub spaced_more : (xs : List ℕ) (i : ℕ) → i < length xs → spaced (take i xs) ++ dec_then (get_or xs i 0) 32 ≡ spaced (take (i + 1) xs)
spaced_more xs i h =
    sym (spaced_last (take i xs) (get_or xs i 0)) ∙ ap spaced (sym (take-suc xs i 0 h)) ∙ ap (λ (k : ℕ). spaced (take k xs)) (sym (add-one i))

-- the last number
pub row_done : (xs : List ℕ) (i : ℕ) → i + 1 ≡ length xs → spaced (take i xs) ++ dec_then (get_or xs i 0) 10 ≡ row xs
row_done xs i h =
    sym (row_last (take i xs) (get_or xs i 0)) ∙ ap row (sym (take-suc xs i 0 (omega (arith, h))))
    ∙ ap (λ (k : ℕ). row (take k xs)) (sym (add-one i) ∙ h) ∙ ap row (take-length xs)

-- ---- how long a line is

-- a number below 10 ^ (k + 1) has at most k + 1 digits
short : (f k n : ℕ) → n < 10 ^ suc k → length (dec_by f n) ≤ suc k
unfolding dec_by
short zero k n h = omega arith
short (suc f) k n h = go k h (dec_lt n 10) (λ j q. short f j (n / 10) q)
  where
    go : (k : ℕ) → n < 10 ^ suc k → Dec (n < 10) → ((j : ℕ) → n / 10 < 10 ^ suc j → length (dec_by f (n / 10)) ≤ suc j)
        → length (dec_by (suc f) n) ≤ suc k
    go k h (yes l) ih = simp (lt-ltb n 10 l) (omega arith)
    go zero h (no g) ih = absurd (omega (arith, g))
    go (suc k) h (no g) ih =
        let ten : 10 ≤ n = omega (arith, g) in
        simp (le-ltb n 10 ten, length-append) (omega (arith, ih k (omega (arith, pow-suc 10 (suc k)))))

-- so its text with one octet after it has at most k + 2
then_short : (k n b : ℕ) → n < 10 ^ suc k → length (dec_then n b) ≤ k + 2
unfolding dec_then dec
then_short k n b h = simp length-append (omega (arith, short (suc n) k n h))

-- every number of xs is below m
abbrev pub Below : ℕ → List ℕ → Type 0
Below m [] = Unit
Below m (x ∷ xs) = (x < m) × Below m xs

-- a line of numbers below 10 ^ (k + 1)
pub row_short : (k : ℕ) (xs : List ℕ) → Below (10 ^ suc k) xs → length (row xs) ≤ (k + 2) * length xs
unfolding row
row_short k [] h = omega arith
row_short k (a ∷ []) h = omega (arith, then_short k a 10 h.0)
row_short k (a ∷ b ∷ rest) h =
    let line = row (b ∷ rest) in
    omega (arith, row_short k (b ∷ rest) h.1, then_short k a 32 h.0, mul-suc (k + 2) (length (b ∷ rest)), length-append (dec_then a 32) line)

-- ---- the digits that std's `decimal` spells

digits_by : (f g n : ℕ) (acc : List ℕ) → n < 10 ^ suc f → n < g → digits_onto (suc f) 10 false n acc ≡ dec_by g n ++ acc
unfolding dec_by
digits_by f zero n acc h l = absurd (not-suc-le-zero l)
digits_by f (suc g) n acc h l = go f h (dec_lt n 10) (λ j q r. digits_by j g (n / 10) ((48 + n % 10) ∷ acc) q r)
  where
    go : (f : ℕ) → n < 10 ^ suc f → Dec (n < 10)
        → ((j : ℕ) → n / 10 < 10 ^ suc j → n / 10 < g → digits_onto (suc j) 10 false (n / 10) ((48 + n % 10) ∷ acc) ≡ dec_by g (n / 10) ++ (48 + n % 10) ∷ acc)
        → digits_onto (suc f) 10 false n acc ≡ dec_by (suc g) n ++ acc
    go f h (yes small) ih =
        let d : n / 10 ≡ 0 = omega arith in
        let m : n % 10 ≡ n = omega arith in
        simp (d, m, lt-ltb n 10 small)
    go zero h (no large) ih = absurd (omega (arith, large))
    go (suc f) h (no large) ih =
        let ten : 10 ≤ n = omega (arith, large) in
        let some : (n / 10 == 0) ≡ false = grind (arith, common_steps) in
        let last : n % 10 < 10 = omega arith in
        let upper : n / 10 < 10 ^ suc f = omega (arith, pow-suc 10 (suc f)) in
        simp (some, le-ltb n 10 ten, lt-ltb (n % 10) 10 last, append_assoc) (ih f upper (omega arith))

-- std's digits of a number of 64 bits
pub decimal_is_dec : (n : ℕ) → n < 2 ^ 64 → decimal n ≡ dec n
unfolding dec digits
decimal_is_dec n h =
    let wide : 20 ≤ 64 = omega arith in
    let p : 10 ^ 20 ≤ 10 ^ 64 = pow-le-pow_right {n = 10} (omega arith) wide in
    digits_by 63 (suc n) n [] (omega arith) (omega arith) ∙ append-nil (dec n)

-- they are at most 20
pub decimal_short : (n : ℕ) → n < 2 ^ 64 → length (decimal n) ≤ 20
unfolding dec
decimal_short n h = rw decimal_is_dec (short (suc n) 19 n (omega arith))

-- n's digits and then an octet
pub dec_before : (n b : ℕ) → dec n ++ (b ∷ []) ≡ dec_then n b
unfolding dec_then
dec_before n b = refl
