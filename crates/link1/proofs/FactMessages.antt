-- Small facts of 001 and 01 about messages, in short tables, each proved by computation: so that a definition read wrongly is refused here,
-- by name, even where code and proofs share the mistake. Assumes nothing.
use mathlib.Core.Path.{◌≡◌, refl}
use mathlib.Core.List.{List, [], ◌∷◌, ◌++◌, map}
use Prim.Native.Nat.{ℕ}
use lib.IntN.{pos, negsuc}
use lib.ListN.{replicate}
use Rattle.bits.specs.Tests.{every}
use Rattle.bits.specs.Numbers.{num_of, sum_of, tab}
use Rattle.bits.specs.Octets.{octets_of}
use Rattle.layout.specs.Trouble.{agreeing}
use Rattle.kind.specs.Labels.{name_refusal, named_of}
use Rattle.words.specs.Words.{image_of}
use Rattle.message.specs.Codec.{message_trouble, message_word}
use Rattle.message.specs.declared.Message.{Message}
use Rattle.message.specs.declared.Message.TheVariants as m
use Rattle.pair.specs.Pairs.{pair_of}
use Rattle.pair.specs.Opening.{open_refusal, open_of}
use Rattle.pair.specs.Closing.{close_refusal, close_image}
use Rattle.pair.specs.ZeroedImage.{zeroed_image}
use Rattle.link1.proofs.Asking.{open_image, kind_named, close_pair}
use Rattle.link1.proofs.Asking.{nothing, pair, buffer, value, told, told_bit, answer, Row, ◌⇒◌, answers, expected, track, at}
use Rattle.frame.proofs.Images.{image_t}
use Rattle.link1.proofs.FactValues.{track_a, track_b, iff_a, iff_b, iff_c, amplifying_of, amplifying_a, amplifying_b, strobe_a, strobe_b, corner_a, corner_b, image_ab, image_strobes, image_iff_a, image_iff_b, image_iff_c, image_digits_a, image_digits_b, image_digits_c, image_amplifying_a, image_amplifying_b, image_corners, image_lowest, image_slowest, slowest, image, label, strength1, elevation13, spare20, spare9, spare8request1, request1spare29, blank30and49, test, test14and15, test8and49, fives, far}

-- every field in its place (01, 'Messages')
abbrev pub fields : List Row
fields =
    (open_image image_ab ⇒ told 0 0 (pair (m.S4 track_a) (m.S8 track_b)))
    ∷ (open_image image_strobes ⇒ told 0 0 (pair (m.S6 (strobe_a 11)) (m.S6 strobe_b)))
    ∷ (open_image image_iff_a ⇒ told 0 0 (pair (m.S4Plus track_a) (m.S3 (iff_a 4))))
    ∷ (open_image image_iff_b ⇒ told 0 0 (pair (m.S8Plus track_b) (m.S3 iff_b)))
    ∷ (open_image image_digits_a ⇒ told 0 0 (pair (m.S4Plus track_a) (m.S3 (iff_a 4))))
    ∷ (open_image image_digits_b ⇒ told 0 0 (pair (m.S8Plus track_b) (m.S3 iff_b)))
    ∷ (open_image image_iff_c ⇒ told 0 0 (pair (m.S4Plus track_a) (m.S3 iff_c)))
    ∷ (open_image image_digits_c ⇒ told 0 0 (pair (m.S4Plus track_a) (m.S3 iff_c)))
    ∷ (open_image image_amplifying_a ⇒ told 0 0 (pair (m.S4Plus track_a) (m.S5 (amplifying_a 6))))
    ∷ (open_image image_amplifying_b ⇒ told 0 0 (pair (m.S8Plus track_b) (m.S5 amplifying_b)))
    ∷ (open_image image_corners ⇒ told 0 0 (pair (m.S9 (corner_a (negsuc 1233) (pos 3007))) (m.S9 corner_b)))
    ∷ (open_image image_lowest ⇒ told 0 0 (pair (m.S4 (track 0 0 (negsuc 4095) (negsuc 4095))) m.Blank))
    ∷ (open_image image_slowest ⇒ told 0 0 (pair (m.S4Plus (track 0 0 (pos 0) (pos 0))) (m.S5 slowest)))
    ∷ []

pub fields_hold : answers fields ≡ expected fields
unfolding answer every num_of sum_of open_refusal open_of pair_of
fields_hold = refl

-- a label alone: 6, S.9+ among them
abbrev pub named : List Row
named =
    (kind_named 17 ⇒ told 0 0 (value 17))
    ∷ (kind_named 5 ⇒ told 0 0 (value 5))
    ∷ (kind_named 37 ⇒ told 6 0 nothing)
    ∷ (kind_named 81 ⇒ told 6 0 nothing)
    ∷ []

pub named_hold : answers named ≡ expected named
unfolding answer name_refusal named_of
named_hold = refl

-- opening: 2 for seventeen octets, 6 first (labels 37 and 24), 6 second, 7, 12 to 14 first, 12 to 14 second, each told before the next; of
-- several troubles in one message the one at the lowest bit
abbrev pub opening : List Row
opening =
    (open_image (image_t ++ 5 ∷ []) ⇒ told 2 0 nothing)
    ∷ (open_image (image (label 0xd2) (label 0x8c) 0xa1) ⇒ told 6 1 nothing)
    ∷ (open_image (image (label 0xc4) (label 0x8c) 0xb7) ⇒ told 6 2 nothing)
    ∷ (open_image (image strength1 strength1 0xff) ⇒ told 7 0 nothing)
    ∷ (open_image (image elevation13 elevation13 0xff) ⇒ told_bit 14 1 40 nothing)
    ∷ (open_image (image (label 0xc4) elevation13 0xeb) ⇒ told_bit 14 2 40 nothing)
    ∷ (open_image (image spare20 (label 0xd0) 0xfd) ⇒ told_bit 13 1 20 nothing)
    ∷ (open_image (image (label 0xd0) spare9 0xdf) ⇒ told_bit 13 2 9 nothing)
    ∷ (open_image (image (label 0xc6) spare8request1 0x9d) ⇒ told_bit 13 2 8 nothing)
    ∷ (open_image (image (label 0xc6) request1spare29 0xbd) ⇒ told_bit 14 2 21 nothing)
    ∷ (open_image (image (label 0xc4) blank30and49 0x9b) ⇒ told_bit 12 2 30 nothing)
    ∷ (open_image (image test14and15 test8and49 0xff) ⇒ told_bit 12 1 14 nothing)
    ∷ (open_image (image test test8and49 0xbf) ⇒ told_bit 12 2 8 nothing)
    ∷ []

pub opening_hold : answers opening ≡ expected opening
unfolding answer every num_of sum_of agreeing open_refusal open_of pair_of
opening_hold = refl

-- closing: 2, 7, 14 or 15 first, 14 or 15 second, each told before the next, and the buffer left; of an S.5 a number too wide at bit 7
-- before a code that is not used at 16, that code before a number too wide at 29, and a strength that is too wide, whatever its bits
abbrev pub closing : List Row
closing =
    (close_pair far m.S0 (fives 15) ⇒ told 2 0 (buffer (fives 15)))
    ∷ (close_pair m.S0 m.S0 (fives 17) ⇒ told 2 0 (buffer (fives 17)))
    ∷ (close_pair far m.S0 (fives 16) ⇒ told 7 0 (buffer (fives 16)))
    ∷ (close_pair far far (fives 16) ⇒ told_bit 15 1 24 (buffer (fives 16)))
    ∷ (close_pair (at (pos 0)) far (fives 16) ⇒ told_bit 15 2 24 (buffer (fives 16)))
    ∷ (close_pair (m.S4Plus track_a) (m.S5 (amplifying_of 512 1 (pos 0))) (fives 16) ⇒ told_bit 15 2 7 (buffer (fives 16)))
    ∷ (close_pair (m.S4Plus track_a) (m.S5 (amplifying_of 511 1 (pos 128))) (fives 16) ⇒ told_bit 14 2 16 (buffer (fives 16)))
    ∷ (close_pair (m.S4Plus track_a) (m.S5 (amplifying_of 511 9 (pos 128))) (fives 16) ⇒ told_bit 15 2 16 (buffer (fives 16)))
    ∷ (close_pair (m.S4Plus track_a) (m.S5 (amplifying_of 511 2 (negsuc 128))) (fives 16) ⇒ told_bit 15 2 29 (buffer (fives 16)))
    ∷ (close_pair (m.S4 track_a) (m.S8 track_b) (fives 16) ⇒ told 0 0 (buffer image_ab))
    ∷ (close_pair (m.S8Plus track_b) (m.S3 iff_b) image_digits_b ⇒ told 0 0 (buffer image_iff_b))
    ∷ (close_pair (m.S4Plus track_a) (m.S3 iff_c) image_digits_c ⇒ told 0 0 (buffer image_iff_c))
    ∷ (close_pair (m.S4Plus (track 0 0 (pos 0) (pos 0))) (m.S5 slowest) (fives 16) ⇒ told 0 0 (buffer image_slowest))
    ∷ (close_pair (m.S9 (corner_a (negsuc 1233) (pos 3007))) (m.S9 corner_b) (fives 16) ⇒ told 0 0 (buffer image_corners))
    ∷ (close_pair (m.S9 corner_b) m.Blank (fives 16) ⇒ told 7 0 (buffer (fives 16)))
    ∷ []

pub closing_hold : answers closing ≡ expected closing
unfolding answer num_of sum_of tab octets_of image_of pair_of close_refusal close_image message_trouble message_word
closing_hold = refl

-- zeroed images (02, item 2): the digits left in absent modes are gone and the check octet is worked anew; the other images are their own
pub zeroed_are :
    map zeroed_image (image_digits_a ∷ image_digits_b ∷ image_digits_c ∷ image_iff_a ∷ image_iff_b ∷ image_ab ∷ image_strobes ∷ image_amplifying_a ∷ image_corners ∷ [])
    ≡ image_iff_a ∷ image_iff_b ∷ image_iff_c ∷ image_iff_a ∷ image_iff_b ∷ image_ab ∷ image_strobes ∷ image_amplifying_a ∷ image_corners ∷ []
unfolding num_of sum_of tab octets_of image_of zeroed_image
zeroed_are = refl

-- ---- codes that are not used (01, 'Messages'): the number that closing answers for each value

abbrev number_closing : Message → Message → ℕ
number_closing first second = (close_refusal first second (fives 16)).number

-- request/reply 1, 3, 5, 6 and 7
pub requests_are : tab (λ n. number_closing (m.S4Plus track_a) (m.S3 (iff_a n))) 8 ≡ 0 ∷ 14 ∷ 0 ∷ 14 ∷ 0 ∷ 14 ∷ 14 ∷ 14 ∷ []
unfolding tab close_refusal pair_of message_trouble
requests_are = refl

-- strength 1
pub strengths_are : tab (λ n. number_closing (m.S4Plus track_a) (m.S5 (amplifying_a n))) 8 ≡ 0 ∷ 14 ∷ replicate 6 0
unfolding tab close_refusal pair_of message_trouble
strengths_are = refl

-- elevation 13 to 15
pub elevations_are : tab (λ n. number_closing (m.S6 (strobe_a n)) m.Blank) 16 ≡ replicate 13 0 ++ 14 ∷ 14 ∷ 14 ∷ []
unfolding tab close_refusal pair_of message_trouble
elevations_are = refl
