-- Small facts of 01 and 02 about texts and the relay, in short tables, each proved by computation: so that a definition read wrongly is
-- refused here, by name, even where code and proofs share the mistake. Assumes nothing.
use mathlib.Core.Path.{◌≡◌, refl}
use mathlib.Core.List.{List, [], ◌∷◌, map}
use lib.IntN.{pos, negsuc, neg_ℤ}
use lib.ListN.{replicate, drop}
use Rattle.bits.specs.Tests.{every}
use Rattle.bits.specs.Numbers.{num_of, sum_of, tab}
use Rattle.bits.specs.Octets.{octets_of}
use Rattle.layout.specs.Trouble.{agreeing}
use Rattle.words.specs.Words.{image_of}
use Rattle.units.specs.Offsets.{within, are_offsets, sum_z}
use Rattle.units.specs.Steps.{near}
use Rattle.message.specs.Codec.{message_word}
use Rattle.track.specs.TrackText.{track_refusal, tracked_of, text_refusal, text_after}
use Rattle.pair.specs.Pairs.{pair_of}
use Rattle.pair.specs.Opening.{open_refusal}
use Rattle.relay.specs.Relay.{relay_refusal, relay_image}
use Rattle.link1.proofs.Asking.{number_of, text_of, relay_by}
use Rattle.link1.proofs.Asking.{buffer, value, told, told_bit, answer, Row, ◌⇒◌, answers, expected, octets}
use Rattle.frame.proofs.Images.{image_t, image_n}
use Rattle.link1.proofs.FactValues.{image_ab, image_strobes, image_iff_b, image_digits_b, image_amplifying_a, image_corners, relayed_ab, relayed_amplifying_a, relayed_iff_b, relayed_corners, image_edges, image_edge, image_cross, image, label, spare9, fives, eight, nine}

-- track texts: every letter and every digit; 2 before 9
abbrev pub texts : List Row
texts =
    (number_of "AE012" ⇒ told 0 0 (value 522))
    ∷ (number_of "GH345" ⇒ told 0 0 (value 9957))
    ∷ (number_of "JK670" ⇒ told 0 0 (value 19384))
    ∷ (number_of "LM123" ⇒ told 0 0 (value 28243))
    ∷ (number_of "BA000" ⇒ told 9 0 (value 0))
    ∷ (number_of "BA00" ⇒ told 2 0 (value 0))
    ∷ (text_of 5203 (fives 5) ⇒ told 0 0 (buffer (octets "EG123")))
    ∷ (text_of 32768 (fives 5) ⇒ told 9 0 (buffer (fives 5)))
    ∷ (text_of 32768 (fives 6) ⇒ told 2 0 (buffer (fives 6)))
    ∷ []

pub texts_hold : answers texts ≡ expected texts
unfolding answer every track_refusal tracked_of text_refusal text_after
texts_hold = refl

-- relaying (02, item 6): S.4 with S.8, S.4+ with S.5, S.8+ with S.3 and two corners, each position moved by 1125 and -1125 feet; the digits
-- of absent modes are gone, also where nothing moves; pairs without a position pass through, whatever the sums
abbrev pub relaying : List Row
relaying =
    (relay_by image_ab (pos 1125 ∷ []) (negsuc 1124 ∷ []) (fives 16) ⇒ told 0 0 (buffer relayed_ab))
    ∷ (relay_by image_ab eight (map neg_ℤ eight) (fives 16) ⇒ told 0 0 (buffer relayed_ab))
    ∷ (relay_by image_amplifying_a (pos 1125 ∷ []) (negsuc 1124 ∷ []) (fives 16) ⇒ told 0 0 (buffer relayed_amplifying_a))
    ∷ (relay_by image_digits_b (pos 1125 ∷ []) (negsuc 1124 ∷ []) (fives 16) ⇒ told 0 0 (buffer relayed_iff_b))
    ∷ (relay_by image_corners (pos 1125 ∷ []) (negsuc 1124 ∷ []) (fives 16) ⇒ told 0 0 (buffer relayed_corners))
    ∷ (relay_by image_digits_b [] [] (fives 16) ⇒ told 0 0 (buffer image_iff_b))
    ∷ (relay_by image_strobes (replicate 8 (pos 6144000)) (replicate 8 (negsuc 6143999)) (fives 16) ⇒ told 0 0 (buffer image_strobes))
    ∷ (relay_by image_t (replicate 8 (pos 6144000)) [] (fives 16) ⇒ told 0 0 (buffer image_t))
    ∷ []

pub relaying_hold : answers relaying ≡ expected relaying
unfolding answer every num_of sum_of tab octets_of agreeing image_of pair_of open_refusal relay_refusal relay_image message_word are_offsets within sum_z near
relaying_hold = refl

-- relaying: opening's refusals, 2 on the buffer, 2 X, 2 Y, 9 on X offsets, 9 on Y offsets, 9 on the first message's X and Y, 9 on the
-- second's, each told before the next, and the buffer left; the lists also where nothing has a position; offsets reach from -6,144,000
abbrev pub relay_orders : List Row
relay_orders =
    (relay_by (1 ∷ drop 1 image_t) nine nine (fives 15) ⇒ told 3 0 (buffer (fives 15)))
    ∷ (relay_by image_n nine nine (fives 15) ⇒ told 7 0 (buffer (fives 15)))
    ∷ (relay_by (image (label 0xd0) spare9 0xdf) nine nine (fives 15) ⇒ told_bit 13 2 9 (buffer (fives 15)))
    ∷ (relay_by image_t nine nine (fives 15) ⇒ told 2 0 (buffer (fives 15)))
    ∷ (relay_by image_t [] [] (fives 17) ⇒ told 2 0 (buffer (fives 17)))
    ∷ (relay_by image_t nine nine (fives 16) ⇒ told 2 1 (buffer (fives 16)))
    ∷ (relay_by image_t (pos 6144001 ∷ []) nine (fives 16) ⇒ told 2 2 (buffer (fives 16)))
    ∷ (relay_by image_t (pos 6144001 ∷ []) (pos 6144001 ∷ []) (fives 16) ⇒ told 9 1 (buffer (fives 16)))
    ∷ (relay_by image_edges (pos 375 ∷ []) (pos 6144001 ∷ []) (fives 16) ⇒ told 9 2 (buffer (fives 16)))
    ∷ (relay_by image_edges (pos 375 ∷ []) (pos 375 ∷ []) (fives 16) ⇒ told 9 1 (buffer (fives 16)))
    ∷ (relay_by image_edges [] (pos 375 ∷ []) (fives 16) ⇒ told 9 2 (buffer (fives 16)))
    ∷ (relay_by image_cross (pos 375 ∷ []) (pos 375 ∷ []) (fives 16) ⇒ told 9 2 (buffer (fives 16)))
    ∷ (relay_by image_edge (pos 375 ∷ []) (pos 375 ∷ []) (fives 16) ⇒ told 9 3 (buffer (fives 16)))
    ∷ (relay_by image_edge [] (pos 375 ∷ []) (fives 16) ⇒ told 9 4 (buffer (fives 16)))
    ∷ (relay_by image_edges (pos 374 ∷ []) (pos 374 ∷ []) (fives 16) ⇒ told 0 0 (buffer image_edges))
    ∷ (relay_by image_edges (negsuc 6143999 ∷ pos 6144000 ∷ []) [] (fives 16) ⇒ told 0 0 (buffer image_edges))
    ∷ (relay_by image_edges (negsuc 6144000 ∷ pos 6144000 ∷ []) [] (fives 16) ⇒ told 9 1 (buffer (fives 16)))
    ∷ []

pub relay_orders_hold : answers relay_orders ≡ expected relay_orders
unfolding answer every num_of sum_of tab octets_of agreeing image_of pair_of open_refusal relay_refusal relay_image message_word are_offsets within sum_z near
relay_orders_hold = refl
