-- Small facts of 001 and 01, computed: labels, the bits of each field, and what is told of each bit that is turned alone. Assumes nothing.
use mathlib.Core.Path.{◌≡◌, refl}
use mathlib.Core.Bool.{true}
use mathlib.Core.List.{List, [], ◌∷◌, ◌++◌, map}
use Prim.Native.Nat.{ℕ, ◌+◌, ◌-◌, ◌*◌, ◌/◌, ◌%◌, ◌^◌}
use lib.Dec.{eqb}
use lib.ListN.{replicate}
use Rattle.bits.specs.Tests.{pick, every}
use Rattle.bits.specs.Numbers.{num_of, sum_of, tab}
use Rattle.layout.specs.Layout.{Field, width_of}
use Rattle.layout.specs.Trouble.{agreeing}
use Rattle.refusal.specs.Refusals.{troubled}
use Rattle.refusal.specs.declared.Refusal.{Refusal}
use Rattle.kind.specs.Layouts.{all_kinds, label_of, Placed, bits_of, layout_of}
use Rattle.kind.specs.declared.Kind.{Kind}
use Rattle.message.specs.Codec.{content_trouble}

-- ---- labels and bit places (01, 'Messages'; S.9: 02, item 1)

-- Blank 0, S.0 46, S.3 19, S.4 17, S.4+ 49, S.5 18, S.6 20, S.8 21, S.8+ 53, S.9 5
pub labels_are : map label_of all_kinds ≡ 0 ∷ 46 ∷ 19 ∷ 17 ∷ 49 ∷ 18 ∷ 20 ∷ 21 ∷ 53 ∷ 5 ∷ []
labels_are = refl

-- a field's first and last bit
infix 90 ◌to◌
abbrev pub ◌to◌ : ℕ → ℕ → List ℕ
first to last = first ∷ last ∷ []

-- those of each field of a layout whose first field begins at a bit
abbrev pub places_from : ℕ → List Field → List (List ℕ)
places_from bit [] = []
places_from bit (f ∷ fs) = bit to (bit + width_of f - 1) ∷ places_from (bit + width_of f) fs

abbrev pub places_of : Kind → List (List ℕ)
places_of kind = places_from 7 (layout_of kind)

abbrev track_places : List (List ℕ)
track_places = 7 to 21 ∷ 22 to 23 ∷ 24 to 36 ∷ 37 to 49 ∷ []

-- Blank, S.0, S.3, S.4, S.4+, S.5, S.6, S.8, S.8+, S.9
pub places_are :
    map places_of all_kinds
    ≡ (7 to 49 ∷ [])
    ∷ (7 to 7 ∷ 8 to 14 ∷ 15 to 21 ∷ 22 to 28 ∷ 29 to 35 ∷ 36 to 42 ∷ 43 to 49 ∷ [])
    ∷ (7 to 8 ∷ 9 to 20 ∷ 21 to 23 ∷ 24 to 24 ∷ 25 to 25 ∷ 26 to 26 ∷ 27 to 27 ∷ 28 to 28 ∷ 29 to 30 ∷ 31 to 35 ∷ 36 to 37 ∷ 38 to 49 ∷ [])
    ∷ track_places
    ∷ track_places
    ∷ (7 to 15 ∷ 16 to 18 ∷ 19 to 22 ∷ 23 to 24 ∷ 25 to 25 ∷ 26 to 26 ∷ 27 to 28 ∷ 29 to 36 ∷ 37 to 38 ∷ 39 to 41 ∷ 42 to 49 ∷ [])
    ∷ (7 to 7 ∷ 8 to 10 ∷ 11 to 12 ∷ 13 to 13 ∷ 14 to 25 ∷ 26 to 31 ∷ 32 to 34 ∷ 35 to 39 ∷ 40 to 43 ∷ 44 to 49 ∷ [])
    ∷ track_places
    ∷ track_places
    ∷ (7 to 8 ∷ 9 to 10 ∷ 11 to 16 ∷ 17 to 18 ∷ 19 to 19 ∷ 20 to 23 ∷ 24 to 36 ∷ 37 to 49 ∷ [])
    ∷ []
places_are = refl

-- and they are the bits that the layouts say
pub said_are : map (λ (kind : Kind). map (λ (p : Placed). p.first to p.last) (bits_of kind)) all_kinds ≡ map places_of all_kinds
said_are = refl

-- ---- each bit alone (02, item 4): the number that is told when bit 7, 8, .. 49 of a message is turned, with all other bits above the
-- label zero, or as S.0's groups have them

abbrev groups : ℕ
groups = sum_of (λ g. 46 * 2 ^ (7 * g)) 7

abbrev legal : Kind → ℕ
legal kind = pick (eqb (label_of kind) 46) groups 0

abbrev turned : ℕ → ℕ → ℕ
turned word bit = pick (eqb (word / 2 ^ (bit - 1) % 2) 0) (word + 2 ^ (bit - 1)) (word - 2 ^ (bit - 1))

abbrev when_turned : Kind → ℕ → Refusal
when_turned kind bit = troubled 1 (content_trouble kind (turned (legal kind) bit))

pub causes_are :
    map (λ (kind : Kind). tab (λ i. (when_turned kind (7 + i)).number) 43) all_kinds
    ≡ replicate 43 12
    ∷ replicate 43 12
    ∷ (replicate 2 13 ++ replicate 12 0 ++ 14 ∷ replicate 7 0 ++ replicate 2 13 ++ replicate 5 0 ++ replicate 2 13 ++ replicate 12 0)
    ∷ replicate 43 0
    ∷ replicate 43 0
    ∷ (replicate 9 0 ++ 14 ∷ replicate 33 0)
    ∷ replicate 43 0
    ∷ replicate 43 0
    ∷ replicate 43 0
    ∷ (replicate 2 0 ++ replicate 2 13 ++ replicate 9 0 ++ replicate 4 13 ++ replicate 26 0)
    ∷ []
unfolding sum_of tab num_of agreeing
causes_are = refl

-- and the bit is that bit, or 0 where nothing is told
pub bits_are : map (λ (kind : Kind). every (λ i. eqb (when_turned kind (7 + i)).bit (pick (eqb (when_turned kind (7 + i)).number 0) 0 (7 + i))) 43) all_kinds ≡ replicate 10 true
unfolding sum_of every num_of agreeing
bits_are = refl
