-- 01, 'Examples to hold against it': the paper's images.
use mathlib.Core.List.{List, [], ◌∷◌, ◌++◌}
use Prim.Native.Nat.{ℕ}
use lib.ListN.{replicate}

abbrev pub image_t : List ℕ
image_t = 0 ∷ replicate 14 0xba ++ 0xff ∷ []

abbrev pub image_n : List ℕ
image_n = 0 ∷ replicate 14 0x80 ++ 0xff ∷ []

abbrev pub image_p : List ℕ
image_p = 0 ∷ 0xc4 ∷ replicate 13 0x80 ++ 0xbb ∷ []

abbrev pub image_q : List ℕ
image_q = 0 ∷ 0xc6 ∷ replicate 6 0x80 ++ 0xa4 ∷ replicate 6 0x80 ++ 0x9d ∷ []
