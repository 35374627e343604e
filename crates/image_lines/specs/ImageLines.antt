-- 01, 'The listing program', and 02, item 4: the line of an image, and the last line.
use Rattle.std.specs.Prelude.{ℕ, Bool, List, [], ◌∷◌, ◌++◌, Ok, Err}
use Rattle.bits.specs.Tests.{pick, is_between}
use Rattle.refusal.specs.Refusals.{success, bad_pattern, too_wide}
use Rattle.kind.specs.Layouts.{label_of}
use Rattle.message.specs.Messages.{kind_of}
use Rattle.pair.specs.Opening.{Opened}
use Rattle.text.specs.Text.{octets, row}

-- the bit is 'a fourth number for these refusals only', 12 to 15 (02, item 4)
abbrev pub has_bit : ℕ → Bool
has_bit number = is_between bad_pattern too_wide number

-- 'per image its number from 1 and, if opened, 0 and both labels, else the refusal and place'
abbrev pub numbers_of : ℕ → Opened → List ℕ
numbers_of n (Ok (first, second)) = n ∷ success ∷ label_of (kind_of first) ∷ label_of (kind_of second) ∷ []
numbers_of n (Err r) = n ∷ r.number ∷ r.place ∷ pick (has_bit r.number) (r.bit ∷ []) []

-- the line of image n
unfoldable pub image_line : ℕ → Opened → List ℕ
image_line n opened = row (numbers_of n opened)

-- 'last END, the images listed and the octets left over'
unfoldable pub last_line : ℕ → ℕ → List ℕ
last_line images left = octets "END " ++ row (images ∷ left ∷ [])
