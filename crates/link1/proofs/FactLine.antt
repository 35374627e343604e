-- Small facts of 001 and 01 about frames, levels, octets and captures, in short tables, each proved by computation: so that a definition
-- read wrongly is refused here, by name, even where code and proofs share the mistake. Assumes nothing.
use mathlib.Core.Path.{◌≡◌, refl}
use mathlib.Core.Bool.{true, false}
use mathlib.Core.List.{List, [], ◌∷◌, ◌++◌, map}
use Prim.Native.Nat.{ℕ}
use lib.IntN.{pos}
use lib.ListN.{replicate, take, drop, get_or}
use Rattle.bits.specs.Tests.{every}
use Rattle.bits.specs.Numbers.{num_of, sum_of, tab}
use Rattle.frame.specs.Frame.{good_frame, verdict_of}
use Rattle.line.specs.Machine.{holds_frame}
use Rattle.line.specs.Told.{swap}
use Rattle.line.specs.Sending.{send_refusal, send_levels}
use Rattle.line.specs.WrongLevel.{changed_at, on_the_line, refusal_at}
use Rattle.octets.specs.Feeding.{taken, last_that, end_bit, fed_to}
use Rattle.sieve.specs.Capture.{good_at}
use Rattle.capture.specs.Search.{first_good, search_refusal, search_of}
use Rattle.message.specs.declared.Message.TheVariants as m
use Rattle.pair.specs.Pairs.{pair_of}
use Rattle.pair.specs.Opening.{open_refusal, open_of}
use Rattle.link1.proofs.Asking.{Asked, asked_verdict, open_image, send_after, hear_after, hear_octets, search_from}
use Rattle.link1.proofs.Asking.{nothing, pair, buffer, heard, heard_in, value, told, answer, Row, ◌⇒◌, answers, expected, track, at, digits, sixteen}
use Rattle.frame.proofs.Images.{image_t, image_p}
use Rattle.link1.proofs.FactValues.{image, label, fives, no_octets, levels_t0, levels_t1, shifted_t}

-- an image: 2, 3, 4, 5, each told before the next (01, 'Orders of checks')
abbrev pub verdicts : List Row
verdicts =
    (asked_verdict (fives 15) ⇒ told 2 0 nothing)
    ∷ (asked_verdict (image_t ++ 5 ∷ []) ⇒ told 2 0 nothing)
    ∷ (asked_verdict (fives 16) ⇒ told 3 0 nothing)
    ∷ (asked_verdict (0 ∷ replicate 15 0) ⇒ told 4 0 nothing)
    ∷ (asked_verdict (image (label 0xc4) (label 0x80) 0xba) ⇒ told 4 0 nothing)
    ∷ (asked_verdict (image (label 0xc4) (label 0x80) 0xb9) ⇒ told 5 0 nothing)
    ∷ []

pub verdicts_hold : answers verdicts ≡ expected verdicts
unfolding answer every sum_of verdict_of
verdicts_hold = refl

-- sending: a one changes the level (01, 'From levels to a frame'); 2 buffer, 1, 3, each told before the next
abbrev pub sending : List Row
sending =
    (send_after 0 image_t (fives 128) ⇒ told 0 0 (buffer levels_t0))
    ∷ (send_after 1 image_t (fives 128) ⇒ told 0 0 (buffer levels_t1))
    ∷ (send_after 2 image_t (fives 127) ⇒ told 2 0 (buffer (fives 127)))
    ∷ (send_after 2 (fives 16) (fives 128) ⇒ told 1 0 (buffer (fives 128)))
    ∷ (send_after 255 image_t (fives 128) ⇒ told 1 0 (buffer (fives 128)))
    ∷ (send_after 1 (fives 16) (fives 128) ⇒ told 3 0 (buffer (fives 128)))
    ∷ []

pub sending_hold : answers sending ≡ expected sending
unfolding answer every sum_of tab send_refusal send_levels
sending_hold = refl

-- hearing: the fresh receiver given a level and then those of an image hands it over on the last; where there is no frame the octets are
-- zero
abbrev pub hearing : List Row
hearing =
    (hear_after (0 ∷ take 127 levels_t0) (get_or levels_t0 127 0) ⇒ told 0 0 (heard true image_t))
    ∷ (hear_after (0 ∷ take 126 levels_t0) (get_or levels_t0 126 0) ⇒ told 0 0 (heard false no_octets))
    ∷ (hear_after [] 0 ⇒ told 0 0 (heard false no_octets))
    ∷ (hear_after [] 2 ⇒ told 1 0 (heard false no_octets))
    ∷ (hear_after [] 255 ⇒ told 1 0 (heard false no_octets))
    ∷ (hear_after (1 ∷ 0 ∷ []) 1 ⇒ told 0 0 (heard false no_octets))
    ∷ []

pub hearing_hold : answers hearing ≡ expected hearing
unfolding answer every sum_of good_frame holds_frame
hearing_hold = refl

-- wrong levels (02, item 7): P sent after 0, with that level before it, as it is; with level 16 changed; with 36 and 44 changed; with all
-- from 16 on changed, the wires swapped there
abbrev line_p : List ℕ
line_p = digits "000000000100001110000000011111111000000001111111100000000111111110000000011111111000000001111111100000000111111110000000011010010"

abbrev line_p16 : List ℕ
line_p16 = digits "000000000100001100000000011111111000000001111111100000000111111110000000011111111000000001111111100000000111111110000000011010010"

abbrev line_p36 : List ℕ
line_p36 = digits "000000000100001110000000011111111000100001110111100000000111111110000000011111111000000001111111100000000111111110000000011010010"

abbrev line_swapped : List ℕ
line_swapped = digits "000000000100001101111111100000000111111110000000011111111000000001111111100000000111111110000000011111111000000001111111100101101"

-- P with its track at X = 387; and as track AA001
abbrev image_away : List ℕ
image_away = sixteen 0x00c480809898808080808080808080bb

abbrev image_next : List ℕ
image_next = sixteen 0x00c580808080808080808080808080bb

-- the last of 129 levels, for a fresh receiver that has had the others
abbrev hear_line : List ℕ → Asked
hear_line line = hear_after (take 128 line) (get_or line 128 0)

-- one wrong level is heard as nothing; two may pass, and so may the wires swapped within a frame: another good frame is heard, and a legal
-- pair
abbrev pub wrongs : List Row
wrongs =
    (hear_line line_p ⇒ told 0 0 (heard true image_p))
    ∷ (hear_line line_p16 ⇒ told 0 0 (heard false no_octets))
    ∷ (hear_line line_p36 ⇒ told 0 0 (heard true image_away))
    ∷ (open_image image_away ⇒ told 0 0 (pair (at (pos 387)) m.Blank))
    ∷ (hear_line line_swapped ⇒ told 0 0 (heard true image_next))
    ∷ (open_image image_next ⇒ told 0 0 (pair (m.S4 (track 1 0 (pos 0) (pos 0))) m.Blank))
    ∷ []

pub wrongs_hold : answers wrongs ≡ expected wrongs
unfolding answer every num_of sum_of good_frame holds_frame open_refusal open_of pair_of
wrongs_hold = refl

-- by the definitions these are the levels sent and changed
pub changed_are :
    on_the_line image_p 0 (fives 128) ∷ changed_at 16 line_p ∷ changed_at 44 (changed_at 36 line_p) ∷ (take 16 line_p ++ map swap (drop 16 line_p)) ∷ []
    ≡ line_p ∷ line_p16 ∷ line_p36 ∷ line_swapped ∷ []
unfolding every sum_of tab send_refusal send_levels
changed_are = refl

-- what is told of each of the 129 levels that is changed alone
pub refusals_are :
    tab refusal_at 129
    ≡ digits "333333333455555544555555445555554455555544555555445555554455555544555555445555554455555544555555445555554455555544555555445555544"
unfolding tab
refusals_are = refl

-- hearing by octets (02, item 5): most significant bit first; the bit from 1 to 8; where there is no frame 0 and zero octets; bits before
-- the first octet never count
abbrev pub feeding : List Row
feeding =
    (hear_octets image_t ⇒ told 0 0 (heard_in true 8 image_t))
    ∷ (hear_octets shifted_t ⇒ told 0 0 (heard_in true 3 image_t))
    ∷ (hear_octets (image_t ++ 0xff ∷ []) ⇒ told 0 0 (heard_in false 0 no_octets))
    ∷ (hear_octets (take 15 image_t ++ 0xfe ∷ []) ⇒ told 0 0 (heard_in false 0 no_octets))
    ∷ (hear_octets (drop 1 image_t) ⇒ told 0 0 (heard_in false 0 no_octets))
    ∷ []

pub feeding_hold : answers feeding ≡ expected feeding
unfolding answer every sum_of good_frame holds_frame taken last_that end_bit fed_to
feeding_hold = refl

-- searching: the first bit of a capture has position 0; 65,536 octets are searched, one more is too long
abbrev pub searching : List Row
searching =
    (search_from 0 image_t ⇒ told 0 0 (value 0))
    ∷ (search_from 0 (0xff ∷ image_t) ⇒ told 0 0 (value 8))
    ∷ (search_from 9 (0xff ∷ image_t) ⇒ told 10 0 (value 0))
    ∷ (search_from 128 image_t ⇒ told 10 0 (value 0))
    ∷ (search_from 129 image_t ⇒ told 9 0 (value 0))
    ∷ (search_from 524289 (replicate 65536 0) ⇒ told 9 0 (value 0))
    ∷ (search_from 524288 (replicate 65536 0) ⇒ told 10 0 (value 0))
    ∷ (search_from 524297 (replicate 65537 0) ⇒ told 2 0 (value 0))
    ∷ []

pub searching_hold : answers searching ≡ expected searching
unfolding answer every sum_of good_frame good_at first_good search_refusal search_of
searching_hold = refl
