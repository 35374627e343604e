-- Laws of the lines for the frames of a capture. Assumes nothing.
use mathlib.Core.Path.{◌≡◌, refl, sym, ap, ◌∙◌}
use mathlib.Core.Bool.{Bool, true, false}
use mathlib.Core.List.{List, [], ◌∷◌, ◌++◌, append_assoc, append-nil}
use Prim.Native.Nat.{ℕ, zero, suc, ◌+◌, ◌*◌, ◌≤◌, ◌<◌}
use native.Mathlib.Numerals.{add-one}
use native.Mathlib.Omega.{arith}
use borrow.Author.Tests.{lt-ltb, le-ltb}
use lib.ListN.{length, length-append}
use Rattle.bits.specs.Octets.{AreOctets}
use Rattle.bits.specs.Tests.{pick}
use Rattle.text.specs.Text.{dec_then, row, too_long}
use Rattle.text.specs.Adds.{Adds}
use Rattle.text.specs.declared.Sheet.{Sheet}
use Rattle.text.proofs.TextLaws.{row_short}
use Rattle.text.proofs.AddsLaws.{adds_none, adds_as, adds_adds}
use Rattle.octets.specs.Feeding.{fresh_octets, fed_to, heard_at}
use Rattle.octets.specs.declared.HeardOctet.{HeardOctet}
use Rattle.hearing.specs.Ends.{ends_after, ends_to, ends_of, end_in}
use Rattle.hearing.specs.Hearing.{lines_of, hearing_of}
use Rattle.hearing.proofs.EndLaws.{ends_few, octet_ends}

lines_append : (xs ys : List ℕ) → lines_of (xs ++ ys) ≡ lines_of xs ++ lines_of ys
unfolding lines_of
lines_append [] ys = refl
lines_append (x ∷ xs) ys =
    ap (λ (l : List ℕ). row (x ∷ []) ++ l) (lines_append xs ys) ∙ sym (append_assoc (row (x ∷ [])) (lines_of xs) (lines_of ys))

-- ---- the line of an octet

pub end_put : (k : ℕ) (h : HeardOctet) {s t : Sheet} → h.frame ≡ true → Adds s (dec_then (8 * k + h.bit) 10) t → Adds s (lines_of (end_in k h)) t
unfolding lines_of row
end_put k h f a =
    adds_as
    (sym
    (ap (λ (t : Bool). lines_of (pick t ((8 * k + h.bit) ∷ []) [])) f ∙ append-nil (dec_then (8 * k + h.bit) 10)))
    a

pub end_none : (k : ℕ) (h : HeardOctet) (s : Sheet) → h.frame ≡ false → Adds s (lines_of (end_in k h)) s
unfolding lines_of
end_none k h s f = adds_as (sym (ap (λ (t : Bool). lines_of (pick t ((8 * k + h.bit) ∷ []) [])) f)) (adds_none s)

-- ---- how long the lines are

-- numbers of at most six digits: seven octets a line
lines_short : (capture : List ℕ) (n : ℕ) → n < 1000000 → length (lines_of (ends_to capture n)) ≤ 7 * length (ends_to capture n)
unfolding ends_to lines_of
lines_short capture zero h = omega arith
lines_short capture (suc n) h = go (ends_after capture (suc n)) (lines_short capture n (omega arith))
  where
    go : (t : Bool) → length (lines_of (ends_to capture n)) ≤ 7 * length (ends_to capture n)
        → length (lines_of (ends_to capture n ++ pick t (suc n ∷ []) [])) ≤ 7 * length (ends_to capture n ++ pick t (suc n ∷ []) [])
    go true ih =
        let line : length (row (suc n ∷ [])) ≤ 7 * 1 = row_short 5 (suc n ∷ []) (h, tt) in
        rw lines_append
        (simp length-append (omega (arith, line)))
    go false ih = rw append-nil ih

-- 4,096 lines at most
pub lines_few : (capture : List ℕ) (k : ℕ) → k ≤ 65536 → length (lines_of (ends_to capture (8 * k))) ≤ 28672
lines_few capture k h = omega (arith, lines_short capture (8 * k) (omega arith), ends_few capture (8 * k))

-- ---- the text, octet by octet

module _ (capture : List ℕ) where
  pub lines_none : (s : Sheet) → Adds s (lines_of (ends_to capture (8 * 0))) s
  unfolding ends_to lines_of
  lines_none s = adds_none s

  -- one octet more
  pub lines_more : AreOctets capture → (k : ℕ) → k < length capture → {h : HeardOctet} {s t u : Sheet} → h ≡ heard_at capture k
      → Adds s (lines_of (ends_to capture (8 * k))) t → Adds t (lines_of (end_in k h)) u → Adds s (lines_of (ends_to capture (8 * (k + 1)))) u
  lines_more octets k inside is a b =
      let next : 8 * k + 8 ≡ 8 * (k + 1) = omega arith in
      adds_as
      (sym (lines_append (ends_to capture (8 * k)) _)
      ∙ ap lines_of
      (ap (λ (h : HeardOctet). ends_to capture (8 * k) ++ end_in k h) is ∙ sym (octet_ends capture octets k inside) ∙ ap (ends_to capture) next))
      (adds_adds a b)

-- the receiver, octet by octet
module _ (capture : List ℕ) where
  pub fed_none : fresh_octets ≡ fed_to capture 0
  unfolding fed_to
  fed_none = refl

  pub fed_more : (k : ℕ) → (heard_at capture k).receiver ≡ fed_to capture (k + 1)
  unfolding fed_to
  fed_more k = sym (ap (fed_to capture) (add-one k))

-- ---- the whole text

module _ (capture : List ℕ) {s t : Sheet} where
  -- the lines of all octets are the text
  pub heard : length capture ≤ 65536 → Adds s (lines_of (ends_of capture)) t → Adds s (hearing_of capture) t
  unfolding hearing_of
  heard few a = adds_as (simp (le-ltb 65536 (length capture) few)) a

  -- a capture that is too long
  pub heard_long : 65536 < length capture → Adds s too_long t → Adds s (hearing_of capture) t
  unfolding hearing_of
  heard_long many a = adds_as (simp (lt-ltb 65536 (length capture) many)) a

-- of a capture that is too long no more counts
pub longer_heard : (capture more : List ℕ) → 65536 < length capture → hearing_of (capture ++ more) ≡ hearing_of capture
unfolding hearing_of
longer_heard capture more many =
    let still : 65536 < length (capture ++ more) = omega (arith, length-append capture more) in
    rw (lt-ltb 65536 (length capture) many, lt-ltb 65536 (length (capture ++ more)) still)
