-- What `map_err` answers, told by its argument. Assumes nothing.
use mathlib.Core.Path.{transport, ap}
use Rattle.std.proofs.Common.{◌≡◌, refl, Result, Ok, Err}
use Rattle.std.specs.Result.{MatchResult, IsErrAnd}
use Rattle.bits.proofs.TestLaws.{zero_one}

same_err : {A F : Type 0} {f g : F} → ◌≡◌ {A = Result A F} (Err f) (Err g) → f ≡ g
same_err e = cc

module _ {A E F : Type 0} (told : E → F → Type 0) where
  pub mapped_ok : (r : Result A E) (s : Result A F) {v : A} → MatchResult r (λ x. s ≡ Ok x) (λ e. IsErrAnd s (told e)) → s ≡ Ok v → r ≡ Ok v
  mapped_ok (Ok x) s m e = cc
  mapped_ok (Err x) (Ok y) m e = absurd m
  mapped_ok (Err x) (Err f) m e = zero_one (cc)

  pub mapped_err : (r : Result A E) (s : Result A F) {f : F} → MatchResult r (λ x. s ≡ Ok x) (λ e. IsErrAnd s (told e)) → s ≡ Err f → (e : E) × (r ≡ Err e) × told e f
  mapped_err (Ok x) s m e = zero_one (cc)
  mapped_err (Err x) (Ok y) m e = absurd m
  mapped_err (Err x) (Err f) m e = (x, refl, transport (ap (told x) (same_err e)) m)
