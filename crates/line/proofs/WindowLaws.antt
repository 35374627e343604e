-- The window holds the low 128 bits of the number that all bits so far write. Assumes nothing.
use mathlib.Core.Path.{◌≡◌, refl, sym, ap, ap₂, subst, ◌∙◌}
use mathlib.Core.List.{List, [], ◌∷◌, ◌++◌}
use Prim.Native.Nat.{ℕ, zero, suc, ◌+◌, ◌-◌, ◌*◌, ◌/◌, ◌%◌, ◌^◌, ◌≤◌, ◌<◌}
use native.Mathlib.Nat.{div-one, mod-lt, mod-eq_of_lt}
use native.Mathlib.Numerals.{add-one}
use native.Mathlib.Omega.{arith}
use lib.Dec.{lit<}
use lib.Bits.{bit_or, or_shifted}
use lib.ListN.{length, get_or}
use lib.Pow.{shr-shr, shl_exact, mod-pow-add, mod-mod-pow, field, high, low}
use Rattle.std.specs.Int.{w128, to_be_bytes}
use Rattle.bits.specs.Numbers.{tab}
use Rattle.bits.specs.Octets.{bit_at}
use Rattle.line.specs.Machine.{pushed, window_image}
use Rattle.line.specs.declared.Window.{Window}
use Rattle.bits.proofs.TestLaws.{by_lt}
use Rattle.bits.proofs.NumberLaws.{get_or-tab, tab_lt, shl_low}

-- ---- the number of a run of bits

-- each is 0 or 1
pub data Bits : List ℕ → Type 0 where
  none : Bits []
  more : {b : ℕ} {bs : List ℕ} → b ≤ 1 → Bits bs → Bits (b ∷ bs)

pub bits_tab : (f : ℕ → ℕ) (n : ℕ) → ((i : ℕ) → f i ≤ 1) → Bits (tab f n)
unfolding tab
bits_tab f zero h = none
bits_tab f (suc n) h = more (h 0) (bits_tab (λ i. f (suc i)) n (λ i. h (suc i)))

-- the number that bits write after the number a, the newest bit lightest
abbrev pub val_from : ℕ → List ℕ → ℕ
val_from a [] = a
val_from a (b ∷ bs) = val_from (a * 2 + b) bs

pub val_snoc : (a : ℕ) (h : List ℕ) (b : ℕ) → val_from a (h ++ b ∷ []) ≡ val_from a h * 2 + b
val_snoc a [] b = refl
val_snoc a (x ∷ h) b = val_snoc (a * 2 + x) h b

-- the bits shifted out again
pub val_div : {bs : List ℕ} (a : ℕ) → Bits bs → val_from a bs / 2 ^ length bs ≡ a
val_div a none = div-one a
val_div a (more {b = b} {bs = r} h t) =
    ap (λ (n : ℕ). val_from (a * 2 + b) r / 2 ^ n) (sym (add-one (length r)))
    ∙ sym (shr-shr (val_from (a * 2 + b) r) (length r) 1)
    ∙ ap (λ (n : ℕ). n / 2) (val_div (a * 2 + b) t)
    ∙ omega arith

-- bit k of the number, from the lightest, is the bit k before the newest
pub val_bit : {bs : List ℕ} (a : ℕ) → Bits bs → (k : ℕ) → k < length bs → val_from a bs / 2 ^ k % 2 ≡ get_or bs (length bs - 1 - k) 0
val_bit a none k h = absurd (omega arith)
val_bit a (more {b = b} {bs = r} l t) k h =
    by_lt k (length r)
    (λ q.
    let e : suc (length r) - 1 - k ≡ suc (length r - 1 - k) = omega arith in
    val_bit (a * 2 + b) t k q ∙ ap (λ (n : ℕ). get_or (b ∷ r) n 0) (sym e))
    (λ q.
    let e : k ≡ length r = omega arith in
    let z : suc (length r) - 1 - k ≡ 0 = omega arith in
    ap (λ (n : ℕ). val_from (a * 2 + b) r / 2 ^ n % 2) e ∙ ap (λ (n : ℕ). n % 2) (val_div (a * 2 + b) t) ∙ omega arith
    ∙ ap (λ (n : ℕ). get_or (b ∷ r) n 0) (sym z))

-- ---- bits pushed

-- a word shifted left by j, and j bits put in
pub shifted_in : (x u j : ℕ) → j ≤ 64 → u < 2 ^ j → bit_or ((x * 2 ^ j) % 2 ^ 64) u ≡ x % 2 ^ (64 - j) * 2 ^ j + u
shifted_in x u j k small = ap (λ (n : ℕ). bit_or n u) (shl_low x j 64 k) ∙ or_shifted (x % 2 ^ (64 - j)) j u small

-- the window holds the low 128 bits of v
pub record Low (w : Window) (v : ℕ) : Type 0 where
  pub older : w.older ≡ v / 2 ^ 64 % 2 ^ 64
  pub newer : w.newer ≡ v % 2 ^ 64

-- the low 128 bits of the number v * 2 ^ j + u, by those of v
module _ (v u j : ℕ) (few : j ≤ 64) (small : u < 2 ^ j) where
  whole : 64 ≡ 64 - j + j
  whole = omega arith

  back : 64 ≡ j + (64 - j)
  back = omega arith

  -- the low bits of a number are those of its low part
  inner : (n : ℕ) → n % 2 ^ 64 % 2 ^ (64 - j) ≡ n % 2 ^ (64 - j)
  inner n = ap (λ (m : ℕ). n % 2 ^ m % 2 ^ (64 - j)) back ∙ mod-mod-pow n j (64 - j)

  pub newer_by : (v * 2 ^ j + u) % 2 ^ 64 ≡ v % 2 ^ 64 % 2 ^ (64 - j) * 2 ^ j + u
  newer_by =
      ap (λ (m : ℕ). (v * 2 ^ j + u) % 2 ^ m) whole
      ∙ mod-pow-add (v * 2 ^ j + u) (64 - j) j
      ∙ ap₂ (λ (m n : ℕ). m % 2 ^ (64 - j) * 2 ^ j + n) (high v j small) (low v j small)
      ∙ ap (λ (m : ℕ). m * 2 ^ j + u) (sym (inner v))

  pub older_by : (v * 2 ^ j + u) / 2 ^ 64 % 2 ^ 64 ≡ v / 2 ^ 64 % 2 ^ 64 % 2 ^ (64 - j) * 2 ^ j + v % 2 ^ 64 / 2 ^ (64 - j)
  older_by =
      let e : (v * 2 ^ j + u) / 2 ^ 64 ≡ v / 2 ^ (64 - j) =
      ap (λ (m : ℕ). (v * 2 ^ j + u) / 2 ^ m) back ∙ sym (shr-shr (v * 2 ^ j + u) j (64 - j)) ∙ ap (λ (m : ℕ). m / 2 ^ (64 - j)) (high v j small) in
      let f : v / 2 ^ (64 - j) / 2 ^ j ≡ v / 2 ^ 64 = shr-shr v (64 - j) j ∙ ap (λ (m : ℕ). v / 2 ^ m) (sym whole) in
      let g : v / 2 ^ (64 - j) % 2 ^ j ≡ v % 2 ^ 64 / 2 ^ (64 - j) =
      sym (field v j (64 - j)) ∙ ap (λ (m : ℕ). v % 2 ^ m / 2 ^ (64 - j)) (sym back) in
      ap (λ (m : ℕ). m % 2 ^ 64) e
      ∙ ap (λ (m : ℕ). v / 2 ^ (64 - j) % 2 ^ m) whole
      ∙ mod-pow-add (v / 2 ^ (64 - j)) (64 - j) j
      ∙ ap₂ (λ (m n : ℕ). m % 2 ^ (64 - j) * 2 ^ j + n) f g
      ∙ ap (λ (m : ℕ). m * 2 ^ j + v % 2 ^ 64 / 2 ^ (64 - j)) (sym (inner (v / 2 ^ 64)))

pub push_low : (w : Window) (v b : ℕ) → b ≤ 1 → Low w v → Low (pushed w b) (v * 2 + b)
push_low w v b h l =
    record {
      older = rw (l.older, l.newer) (sym (older_by v b 1 (omega arith) (omega arith)));
      newer = rw l.newer (sym (newer_by v b 1 (omega arith) (omega arith)));
    }

-- a window that holds the low bits of a number is told by it
abbrev pub window_of : ℕ → Window
window_of v = record { older = v / 2 ^ 64 % 2 ^ 64; newer = v % 2 ^ 64 }

pub low_is : (w : Window) (v : ℕ) → Low w v → w ≡ window_of v
low_is w v l = λ i. record { older = l.older i; newer = l.newer i }

-- every window whose numbers fit holds the bits of some number
pub low_self : (w : Window) → w.older < 2 ^ 64 → w.newer < 2 ^ 64 → Low w (w.older * 2 ^ 64 + w.newer)
low_self w a b =
    record {
      older = sym (ap (λ (n : ℕ). n % 2 ^ 64) (high w.older 64 b) ∙ mod-eq_of_lt a);
      newer = sym (low w.older 64 b);
    }

-- ---- the window's image

-- an octet of a number's low part is that octet of the number
piece : (n k j : ℕ) → n % 2 ^ (j + 8 + k) / 2 ^ k % 256 ≡ n / 2 ^ k % 256
piece n k j = rw (field n (j + 8) k) (mod-mod-pow (n / 2 ^ k) j 8)

-- octet o, from 0, of the low 128 bits of v
abbrev octet_in : ℕ → ℕ → ℕ
octet_in v o = v / 2 ^ (8 * (15 - o)) % 256

window_octets : (w : Window) (v : ℕ) → Low w v → window_image w ≡ tab (octet_in v) 16
unfolding tab
window_octets w v l =
    rw (l.older, l.newer)
    (λ i.
    high 56 0 i ∷ high 48 8 i ∷ high 40 16 i ∷ high 32 24 i ∷ high 24 32 i ∷ high 16 40 i ∷ high 8 48 i ∷ high₀ i
    ∷ low 56 0 i ∷ low 48 8 i ∷ low 40 16 i ∷ low 32 24 i ∷ low 24 32 i ∷ low 16 40 i ∷ low 8 48 i ∷ low₀ i ∷ [])
  where
    high : (k j : ℕ) → v / 2 ^ 64 % 2 ^ (j + 8 + k) / 2 ^ k % 256 ≡ v / 2 ^ (64 + k) % 256
    high k j = piece (v / 2 ^ 64) k j ∙ ap (λ (n : ℕ). n % 256) (shr-shr v 64 k)

    low : (k j : ℕ) → v % 2 ^ (j + 8 + k) / 2 ^ k % 256 ≡ v / 2 ^ k % 256
    low k j = piece v k j

    high₀ : v / 2 ^ 64 % 2 ^ 64 % 256 ≡ v / 2 ^ 64 % 256
    high₀ = mod-mod-pow (v / 2 ^ 64) 56 8

    low₀ : v % 2 ^ 64 % 256 ≡ v / 1 % 256
    low₀ = mod-mod-pow v 56 8 ∙ ap (λ (n : ℕ). n % 256) (sym (div-one v))

pub window_octet : (w : Window) (v : ℕ) → Low w v → (k : ℕ) → get_or (window_image w) k 0 < 256
window_octet w v l k =
    subst (λ (s : List ℕ). get_or s k 0 < 256) (sym (window_octets w v l)) (tab_lt (octet_in v) 256 (λ o. mod-lt _ (lit< tt)) (lit< tt) 16 k)

number_octets : (v : ℕ) → to_be_bytes w128 v ≡ tab (octet_in v) 16
unfolding tab
number_octets v = rw (div-one v) refl

-- the window's octets are those of its 128 bits as one number
pub window_bytes : (w : Window) → w.older < 2 ^ 64 → w.newer < 2 ^ 64
    → to_be_bytes w128 (bit_or ((w.older * 2 ^ 64) % 2 ^ 128) w.newer) ≡ window_image w
window_bytes w a b =
    let v = w.older * 2 ^ 64 + w.newer in
    ap (to_be_bytes w128) (ap (λ (n : ℕ). bit_or n w.newer) (shl_exact 64 64 128 a (omega arith)) ∙ or_shifted w.older 64 w.newer b)
    ∙ number_octets v ∙ sym (window_octets w v (low_self w a b))

-- a bit of the low octet of x
octet_bit : (x k : ℕ) → k < 8 → x % 256 / 2 ^ k % 2 ≡ x / 2 ^ k % 2
octet_bit x k h =
    let j = 7 - k in
    let e : 8 ≡ (j + 1) + k = omega arith in
    ap (λ (n : ℕ). x % 2 ^ n / 2 ^ k % 2) e ∙ ap (λ (n : ℕ). n % 2) (field x (j + 1) k) ∙ mod-mod-pow (x / 2 ^ k) j 1

-- frame bit n of the window's image is the bit 128 - n before the newest
pub window_bit : (w : Window) (v : ℕ) → Low w v → (n : ℕ) → 1 ≤ n → n ≤ 128 → bit_at (window_image w) n ≡ v / 2 ^ (128 - n) % 2
window_bit w v l n h m =
    let o = (n - 1) / 8 in
    let k = 7 - (n - 1) % 8 in
    let e : 8 * (15 - o) + k ≡ 128 - n = omega arith in
    ap (λ (s : List ℕ). bit_at s n) (window_octets w v l)
    ∙ ap (λ (x : ℕ). x / 2 ^ k % 2) (get_or-tab (octet_in v) 16 o (omega arith))
    ∙ octet_bit (v / 2 ^ (8 * (15 - o))) k (omega arith)
    ∙ ap (λ (x : ℕ). x % 2) (shr-shr v (8 * (15 - o)) k ∙ ap (λ (x : ℕ). v / 2 ^ x) e)
