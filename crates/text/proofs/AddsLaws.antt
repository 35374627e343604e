-- Laws of texts that are put on a sheet. Assumes nothing.
use mathlib.Core.Path.{◌≡◌, refl, subst, ◌∙◌}
use mathlib.Core.List.{List, [], ◌++◌}
use Prim.Native.Nat.{ℕ, ◌≤◌}
use native.Mathlib.Omega.{arith}
use lib.ListN.{length}
use Rattle.text.specs.Adds.{Adds}
use Rattle.text.specs.declared.Sheet.{Sheet}
use Rattle.text.proofs.WroteLaws.{put_none, put_put}

-- nothing is put
pub adds_none : (s : Sheet) → Adds s [] s
adds_none s = record { lent = refl; same_length = refl; wrote = put_none s.out.now s.written }

-- the same text by another name
pub adds_as : {s t : Sheet} {xs ys : List ℕ} → xs ≡ ys → Adds s xs t → Adds s ys t
adds_as {s} {t} same a = subst (λ (l : List ℕ). Adds s l t) same a

-- one text after another is the two together
pub adds_adds : {s t u : Sheet} {xs ys : List ℕ} → Adds s xs t → Adds t ys u → Adds s (xs ++ ys) u
adds_adds {s} {t} {u} a b =
    let inside : t.written ≤ length s.out.now = omega (arith, t.within, a.same_length) in
    record { lent = b.lent ∙ a.lent; same_length = b.same_length ∙ a.same_length; wrote = put_put inside a.wrote b.wrote }
