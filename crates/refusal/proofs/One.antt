-- What it is for a contract to have one answer: `meets r e` says that the answer r, with e at the exit, meets it.
use mathlib.Core.Path.{◌≡◌}
use mathlib.Core.List.{List}
use Prim.Native.Nat.{ℕ}

-- a contract of one answer, and one that also leaves one content of a lent buffer
abbrev pub One : {R E : Type 0} → (R → E → Type 0) → Type 0
One {R} {E} meets = (r s : R) (e f : E) → meets r e → meets s f → r ≡ s

abbrev pub OneLeaving : {R E : Type 0} → (R → E → Type 0) → (E → List ℕ) → Type 0
OneLeaving {R} {E} meets left = (r s : R) (e f : E) → meets r e → meets s f → (r ≡ s) × (left e ≡ left f)
