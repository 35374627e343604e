-- What an answer says: that of `ok_or` of the option, and of any of its value. Assumes nothing.
use Rattle.std.proofs.Common.{◌≡◌, refl, Option, Some, None, Result, Ok, Err}
use Rattle.std.specs.Option.{ok_or}
use Rattle.bits.proofs.TestLaws.{zero_one}

pub none_told : {A E : Type 0} (o : Option A) {e x : E} → ok_or o e ≡ Err x → (o ≡ None) × (e ≡ x)
none_told None p = (refl, cc)
none_told (Some a) p = zero_one (cc)

pub some_told : {A E : Type 0} (o : Option A) (e : E) {a : A} → ok_or o e ≡ Ok a → o ≡ Some a
some_told None e p = zero_one (cc)
some_told (Some b) e p = cc

pub same_ok : {A E : Type 0} {a b : A} → ◌≡◌ {A = Result A E} (Ok a) (Ok b) → a ≡ b
same_ok p = cc
