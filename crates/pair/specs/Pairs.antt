-- Which kinds may share a frame, first and second (house table, from 001, Annex A, Appendix 4, and Annex B, Appendix 1;
-- 01, 'Which pairs may share a frame'; S.9: 02, item 1).
use Rattle.std.specs.Prelude.{Bool, true, false, List, [], ◌∷◌, eqb}
use Rattle.bits.specs.Tests.{pick}
use Rattle.kind.specs.Layouts.{number_of}
use Rattle.kind.specs.declared.Kind.{Kind}
use Rattle.kind.specs.declared.Kind.TheVariants.{Blank, S0, S3, S4, S4Plus, S5, S6, S8, S8Plus, S9}

-- the kinds that may follow a kind
abbrev pub after : Kind → List Kind
after S0 = S0 ∷ []
after S4Plus = S3 ∷ S5 ∷ []
after S8Plus = S3 ∷ S5 ∷ []
after S4 = S4 ∷ S6 ∷ S8 ∷ Blank ∷ []
after S6 = S4 ∷ S6 ∷ S8 ∷ Blank ∷ []
after S8 = S4 ∷ S6 ∷ S8 ∷ Blank ∷ []
after S9 = S9 ∷ []
after Blank = []
after S3 = []
after S5 = []

abbrev pub is_in : Kind → List Kind → Bool
is_in k [] = false
is_in k (x ∷ xs) = pick (eqb (number_of k) (number_of x)) true (is_in k xs)

unfoldable pub pair_of : Kind → Kind → Bool
pair_of first second = is_in second (after first)
