-- Laws of the lines of a listing. Assumes nothing.
use mathlib.Core.Path.{◌≡◌, sym, ap, ap₂, ◌∙◌}
use mathlib.Core.List.{List, ◌++◌}
use Prim.Native.Nat.{ℕ, ◌+◌, ◌*◌, ◌/◌, ◌%◌, ◌≤◌, ◌<◌}
use native.Mathlib.Numerals.{add-one}
use native.Mathlib.Omega.{arith}
use borrow.Author.Tests.{lt-ltb, le-ltb}
use lib.ListN.{length, take, drop, length-append, length-drop}
use lib.Seq.{take_at, drop_at, drop-drop}
use Rattle.pair.specs.Opening.{Opened, open_of}
use Rattle.text.specs.Text.{too_long}
use Rattle.text.specs.Adds.{Adds}
use Rattle.text.specs.declared.Sheet.{Sheet}
use Rattle.image_lines.specs.ImageLines.{image_line, last_line}
use Rattle.listing.specs.Listing.{header, image_lines, image_at, listing_of}
use Rattle.text.proofs.AddsLaws.{adds_none, adds_as, adds_adds}

-- of the octets from image k on, the first sixteen are the image, and the others are those from the next on
pub image_next : (log : List ℕ) (k : ℕ) {left image rest : List ℕ} → left ≡ drop (k * 16) log → left ≡ image ++ rest → length image ≡ 16
    → (k * 16 + 16 ≤ length log) × (image ≡ image_at log k) × (rest ≡ drop ((k + 1) * 16) log)
unfolding image_at
image_next log k {left} {image} {rest} from is sixteen =
    let past : k * 16 + 16 ≡ (k + 1) * 16 = omega arith in (
      omega (arith, ap length (sym is ∙ from), length-append image rest, length-drop (k * 16) log, sixteen),
      sym (take_at image rest 16 sixteen) ∙ ap (take 16) (sym is ∙ from),
      sym (drop_at image rest 16 sixteen) ∙ ap (drop 16) (sym is ∙ from) ∙ drop-drop 16 (k * 16) log ∙ ap (λ (n : ℕ). drop n log) past,
    )

-- where fewer are left, k images are all
pub images_done : (log : List ℕ) (k : ℕ) {left : List ℕ} → k * 16 ≤ length log → left ≡ drop (k * 16) log → length left < 16 → k ≡ length log / 16
images_done log k within from few = omega (arith, within, few, ap length from, length-drop (k * 16) log)

-- no line
pub lines_none : (log : List ℕ) (s : Sheet) → Adds s (image_lines log 0) s
unfolding image_lines
lines_none log s = adds_none s

-- one line more
pub lines_more : (log : List ℕ) (k : ℕ) {n : ℕ} {o : Opened} → n ≡ k → o ≡ open_of (image_at log k)
    → image_lines log k ++ image_line (n + 1) o ≡ image_lines log (k + 1)
unfolding image_lines
lines_more log k {n} {o} number is =
    ap₂ (λ (m : ℕ) (p : Opened). image_lines log k ++ image_line m p) (ap (λ (m : ℕ). m + 1) number ∙ add-one k) is
    ∙ ap (image_lines log) (sym (add-one k))

-- the header, the lines and the last line are the listing
pub listed : (log : List ℕ) {s t u v : Sheet} → length log ≤ 65536 → Adds s header t → Adds t (image_lines log (length log / 16)) u
    → Adds u (last_line (length log / 16) (length log % 16)) v → Adds s (listing_of log) v
unfolding listing_of
listed log few a b c = adds_as (simp (le-ltb 65536 (length log) few)) (adds_adds (adds_adds a b) c)

-- a log that is too long
pub listed_long : (log : List ℕ) {s t : Sheet} → 65536 < length log → Adds s too_long t → Adds s (listing_of log) t
unfolding listing_of
listed_long log many a = adds_as (simp (lt-ltb 65536 (length log) many)) a

-- of a log that is too long no more counts
pub longer_listed : (log more : List ℕ) → 65536 < length log → listing_of (log ++ more) ≡ listing_of log
unfolding listing_of
longer_listed log more many =
    let still : 65536 < length (log ++ more) = omega (arith, length-append log more) in
    rw (lt-ltb 65536 (length log) many, lt-ltb 65536 (length (log ++ more)) still)
