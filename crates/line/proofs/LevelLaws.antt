-- Laws of levels and their bits. Assumes nothing.
use mathlib.Core.Path.{◌≡◌, refl, sym, ap, ap₂, ◌∙◌}
use mathlib.Core.Bool.{Bool, true, false}
use mathlib.Core.List.{List, [], ◌∷◌, ◌++◌, map, append_assoc}
use Prim.Native.Nat.{ℕ, zero, suc, ◌+◌, ◌-◌, ◌≤◌, ◌<◌}
use native.Mathlib.Omega.{arith}
use borrow.Author.Tests.{le-ltb, lt-ltb, ltb-false}
use lib.Dec.{eqb}
use lib.ListN.{length, get_or, set, length-append}
use lib.Seq.{get_or-append_seam, get_or-append-add}
use Rattle.bits.specs.Tests.{pick}
use Rattle.line.specs.Levels.{refused, differ, kept, bits_after, bits_of, decoded}
use Rattle.line.specs.Told.{swap}
use Rattle.line.specs.Sending.{next, levels_after}
use Rattle.line.proofs.WindowLaws.{Bits, none, more}

-- the last level of a run that follows the level d
abbrev pub last_level : ℕ → List ℕ → ℕ
last_level d [] = d
last_level d (x ∷ xs) = last_level x xs

pub last_snoc : (d : ℕ) (ks : List ℕ) (l : ℕ) → last_level d (ks ++ l ∷ []) ≡ l
last_snoc d [] l = refl
last_snoc d (k ∷ ks) l = last_snoc k ks l

-- ---- bits

pub differ_le : (a b : ℕ) → differ a b ≤ 1
differ_le a b = go (eqb a b)
  where
    go : (t : Bool) → pick t 0 1 ≤ 1
    go true = omega arith
    go false = omega arith

pub bits_append : (a : ℕ) (r t : List ℕ) → bits_after a (r ++ t) ≡ bits_after a r ++ bits_after (last_level a r) t
bits_append a [] t = refl
bits_append a (x ∷ r) t = ap (λ (u : List ℕ). differ a x ∷ u) (bits_append x r t)

pub length_bits : (a : ℕ) (r : List ℕ) → length (bits_after a r) ≡ length r
length_bits a [] = refl
length_bits a (x ∷ r) = ap suc (length_bits x r)

pub length_told : (ls : List ℕ) → length (bits_of ls) ≡ length ls - 1
length_told [] = refl
length_told (l ∷ ls) = length_bits l ls ∙ omega arith

pub bits_bits : (a : ℕ) (r : List ℕ) → Bits (bits_after a r)
bits_bits a [] = none
bits_bits a (x ∷ r) = more (differ_le a x) (bits_bits x r)

-- of levels from number 0 on, number n and the next tell the bit at index n
pub bit_told : (ls : List ℕ) (n : ℕ) → suc n < length ls → get_or (bits_of ls) n 0 ≡ differ (get_or ls n 0) (get_or ls (suc n) 0)
bit_told [] n h = absurd (omega arith)
bit_told (a ∷ []) n h = absurd (omega arith)
bit_told (a ∷ x ∷ r) zero h = refl
bit_told (a ∷ x ∷ r) (suc n) h = bit_told (x ∷ r) n (omega arith)

-- the bits of a run of levels that comes after another run are the last of both
pub bits_behind : (rs ts : List ℕ) → 1 ≤ length ts → (y : List ℕ) × (bits_of (rs ++ ts) ≡ y ++ bits_of ts)
bits_behind rs [] h = absurd (omega arith)
bits_behind [] (c ∷ cs) h = ([], refl)
bits_behind (a ∷ r) (c ∷ cs) h = (
  bits_after a r ++ differ (last_level a r) c ∷ [],
  bits_append a r (c ∷ cs) ∙ sym (append_assoc (bits_after a r) (differ (last_level a r) c ∷ []) (bits_after c cs)),
)

-- ---- levels that are not refused

pub kept_append : (a b : List ℕ) → kept (a ++ b) ≡ kept a ++ kept b
kept_append [] b = refl
kept_append (x ∷ a) b = go (refused x) (kept_append a b)
  where
    go : (t : Bool) → kept (a ++ b) ≡ kept a ++ kept b → pick t (kept (a ++ b)) (x ∷ kept (a ++ b)) ≡ pick t (kept a) (x ∷ kept a) ++ kept b
    go true ih = ih
    go false ih = ap (λ (u : List ℕ). x ∷ u) ih

pub kept_snoc : (ls : List ℕ) (l : ℕ) → l ≤ 1 → kept (ls ++ l ∷ []) ≡ kept ls ++ l ∷ []
kept_snoc ls l h = kept_append ls (l ∷ []) ∙ rw (le-ltb 1 l h)

-- a bit for each level behind a level, and none for one that is refused
bits_two : (ks : List ℕ) (a b : ℕ) → bits_of (ks ++ a ∷ b ∷ []) ≡ bits_of (ks ++ a ∷ []) ++ differ a b ∷ []
bits_two [] a b = refl
bits_two (k ∷ ks) a b =
    ap (bits_after k) (sym (append_assoc ks (a ∷ []) (b ∷ []))) ∙ bits_append k (ks ++ a ∷ []) (b ∷ [])
    ∙ ap (λ (c : ℕ). bits_after k (ks ++ a ∷ []) ++ differ c b ∷ []) (last_snoc k ks a)

pub bit_more : (ls : List ℕ) (a b : ℕ) → a ≤ 1 → b ≤ 1 → decoded (ls ++ a ∷ b ∷ []) ≡ decoded (ls ++ a ∷ []) ++ differ a b ∷ []
bit_more ls a b h l =
    let two : kept (ls ++ a ∷ b ∷ []) ≡ kept ls ++ a ∷ b ∷ [] = kept_append ls (a ∷ b ∷ []) ∙ rw (le-ltb 1 a h, le-ltb 1 b l) in
    ap bits_of two ∙ bits_two (kept ls) a b ∙ ap (λ (ks : List ℕ). bits_of ks ++ differ a b ∷ []) (sym (kept_snoc ls a h))

pub refused_more : (ls ms : List ℕ) (l : ℕ) → 1 < l → decoded (ls ++ l ∷ ms) ≡ decoded (ls ++ ms)
refused_more ls ms l h =
    let gone : kept (ls ++ l ∷ ms) ≡ kept (ls ++ ms) = kept_append ls (l ∷ ms) ∙ rw (lt-ltb 1 l h) (sym (kept_append ls ms)) in
    ap bits_of gone

pub kept_bits : (ls : List ℕ) → Bits (kept ls)
kept_bits [] = none
kept_bits (l ∷ ls) = go (refused l) refl (kept_bits ls)
  where
    go : (t : Bool) → refused l ≡ t → Bits (kept ls) → Bits (pick t (kept ls) (l ∷ kept ls))
    go true e b = b
    go false e b = more (ltb-false 1 l e) b

pub kept_all : {ls : List ℕ} → Bits ls → kept ls ≡ ls
kept_all none = refl
kept_all (more {b = l} {bs = ls} h t) = rw (le-ltb 1 l h) (ap (λ (r : List ℕ). l ∷ r) (kept_all t))

pub bits_at : {ls : List ℕ} → Bits ls → (n : ℕ) → get_or ls n 0 ≤ 1
bits_at none n = omega arith
bits_at (more h t) zero = h
bits_at (more h t) (suc n) = bits_at t n

pub bits_set : {ls : List ℕ} (i v : ℕ) → v ≤ 1 → Bits ls → Bits (set ls i v)
bits_set i v h none = none
bits_set zero v h (more k t) = more h t
bits_set (suc i) v h (more k t) = more k (bits_set i v h t)

pub bits_last : (ls : List ℕ) (l : ℕ) → Bits (ls ++ l ∷ []) → l ≤ 1
bits_last [] l (more h t) = h
bits_last (x ∷ ls) l (more h t) = bits_last ls l t

-- the last level of a run, which ends in levels that are 0 or 1
pub last_le : (rs : List ℕ) {ts : List ℕ} (ls : List ℕ) (l : ℕ) → Bits ts → 1 ≤ length ts → ls ++ l ∷ [] ≡ rs ++ ts → l ≤ 1
last_le rs {ts} ls l all some e =
    let k = length ts - 1 in
    let at : length ls ≡ length rs + k = omega (arith, length-append ls (l ∷ []), ap length e, length-append rs ts) in
    let same : l ≡ get_or ts k 0 =
    sym (get_or-append_seam ls l [] 0) ∙ ap₂ (λ (s : List ℕ) (n : ℕ). get_or s n 0) e at ∙ get_or-append-add rs ts k 0 in
    rw same (bits_at all k)

-- ---- two levels, by cases

-- what holds of each pair of levels that are 0 or 1
pub by_levels : (P : ℕ → ℕ → Type 0) → P 0 0 → P 0 1 → P 1 0 → P 1 1 → (a b : ℕ) → a ≤ 1 → b ≤ 1 → P a b
by_levels P p q r s zero zero ha hb = p
by_levels P p q r s zero (suc zero) ha hb = q
by_levels P p q r s (suc zero) zero ha hb = r
by_levels P p q r s (suc zero) (suc zero) ha hb = s
by_levels P p q r s zero (suc (suc b)) ha hb = absurd (omega arith)
by_levels P p q r s (suc zero) (suc (suc b)) ha hb = absurd (omega arith)
by_levels P p q r s (suc (suc a)) b ha hb = absurd (omega arith)

-- ---- the wires swapped

pub refused_swap : (l : ℕ) → refused (swap l) ≡ refused l
refused_swap l = go (refused l) refl
  where
    go : (t : Bool) → refused l ≡ t → refused (pick t l (1 - l)) ≡ t
    go true e = e
    go false e = le-ltb 1 (1 - l) (omega arith)

kept_swap : (ls : List ℕ) → kept (map swap ls) ≡ map swap (kept ls)
kept_swap [] = refl
kept_swap (l ∷ ls) = rw (refused_swap l) (go (refused l) (kept_swap ls))
  where
    go : (t : Bool) → kept (map swap ls) ≡ map swap (kept ls)
        → pick t (kept (map swap ls)) (swap l ∷ kept (map swap ls)) ≡ map swap (pick t (kept ls) (l ∷ kept ls))
    go true ih = ih
    go false ih = ap (λ (t : List ℕ). swap l ∷ t) ih

differ_swap : (a b : ℕ) → a ≤ 1 → b ≤ 1 → differ (swap a) (swap b) ≡ differ a b
differ_swap = by_levels (λ a b. differ (swap a) (swap b) ≡ differ a b) refl refl refl refl

after_swap : {ks : List ℕ} (a : ℕ) → a ≤ 1 → Bits ks → bits_after (swap a) (map swap ks) ≡ bits_after a ks
after_swap a h none = refl
after_swap a h (more {b = l} k t) = ap₂ (λ (x : ℕ) (u : List ℕ). x ∷ u) (differ_swap a l h k) (after_swap l k t)

bits_swap : {ks : List ℕ} → Bits ks → bits_of (map swap ks) ≡ bits_of ks
bits_swap none = refl
bits_swap (more {b = l} h t) = after_swap l h t

pub decoded_swap : (ls : List ℕ) → decoded (map swap ls) ≡ decoded ls
decoded_swap ls = rw (kept_swap ls) (bits_swap (kept_bits ls))

-- ---- what is sent

pub next_le : (a b : ℕ) → a ≤ 1 → next a b ≤ 1
next_le a b h = go (eqb b 0)
  where
    go : (t : Bool) → pick t a (1 - a) ≤ 1
    go true = h
    go false = omega arith

differ_next : (a b : ℕ) → a ≤ 1 → b ≤ 1 → differ a (next a b) ≡ b
differ_next = by_levels (λ a b. differ a (next a b) ≡ b) refl refl refl refl

-- the bits of the levels that tell bits are these
pub told_bits : {bs : List ℕ} (a : ℕ) → a ≤ 1 → Bits bs → bits_after a (levels_after a bs) ≡ bs
told_bits a h none = refl
told_bits a h (more {b = b} {bs = bs} l t) =
    ap₂ (λ (x : ℕ) (u : List ℕ). x ∷ u) (differ_next a b h l) (told_bits (next a b) (next_le a b h) t)

pub levels_bits : (a : ℕ) (bs : List ℕ) → a ≤ 1 → Bits (levels_after a bs)
levels_bits a [] h = none
levels_bits a (b ∷ bs) h = more (next_le a b h) (levels_bits (next a b) bs (next_le a b h))

pub levels_snoc : (a : ℕ) (bs : List ℕ) (b : ℕ) → levels_after a (bs ++ b ∷ []) ≡ levels_after a bs ++ next (last_level a (levels_after a bs)) b ∷ []
levels_snoc a [] b = refl
levels_snoc a (x ∷ bs) b = ap (λ (t : List ℕ). next a x ∷ t) (levels_snoc (next a x) bs b)
