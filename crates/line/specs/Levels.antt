-- From levels to bits (001, Annex A, Appendix 3, paragraph 4; 01, 'From levels to a frame').
use Rattle.std.specs.Prelude.{Bool, List, [], ◌∷◌, ℕ, eqb, ltb}
use Rattle.bits.specs.Tests.{pick}

-- a level is refused exactly when it is neither 0 nor 1
abbrev pub refused : ℕ → Bool
refused level = ltb 1 level

-- a bit is one where the level differs from the level before, else zero
abbrev pub differ : ℕ → ℕ → ℕ
differ before level = pick (eqb before level) 0 1

-- a refused level counts for nothing
abbrev pub kept : List ℕ → List ℕ
kept [] = []
kept (l ∷ ls) = pick (refused l) (kept ls) (l ∷ kept ls)

-- the bits of levels that follow the level `before`
abbrev pub bits_after : ℕ → List ℕ → List ℕ
bits_after before [] = []
bits_after before (l ∷ ls) = differ before l ∷ bits_after l ls

-- the first level gives no bit
abbrev pub bits_of : List ℕ → List ℕ
bits_of [] = []
bits_of (l ∷ ls) = bits_after l ls

-- the bits that a run of levels decodes to
abbrev pub decoded : List ℕ → List ℕ
decoded ls = bits_of (kept ls)
