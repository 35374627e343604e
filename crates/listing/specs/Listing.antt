-- 01, 'The listing program': the whole of what is written for a log. Its lines are those of `image_lines`, ImageLines.antt.
use Rattle.std.specs.Prelude.{ℕ, zero, suc, ◌*◌, ◌/◌, ◌%◌, List, [], ◌++◌, length, take, drop, ltb}
use Rattle.bits.specs.Tests.{pick}
use Rattle.pair.specs.Opening.{open_of}
use Rattle.text.specs.Text.{octets, too_long}
use Rattle.image_lines.specs.ImageLines.{image_line, last_line}

-- 'the header LINK1'
abbrev pub header : List ℕ
header = octets "LINK1\n"

-- 'the sixteen octets at each place in the log': the image that begins at octet 16 k
unfoldable pub image_at : List ℕ → ℕ → List ℕ
image_at log k = take 16 (drop (k * 16) log)

-- the lines of the first k images of a log
unfoldable pub image_lines : List ℕ → ℕ → List ℕ
image_lines log zero = []
image_lines log (suc k) = image_lines log k ++ image_line (suc k) (open_of (image_at log k))

-- the listing of a log: 'at most 65,536 octets; more gives the single line TOO LONG'
unfoldable pub listing_of : List ℕ → List ℕ
listing_of log =
    pick (ltb 65536 (length log))
    too_long
    (header ++ image_lines log (length log / 16) ++ last_line (length log / 16) (length log % 16))
