-- Laws of reads into a buffer, one behind the other. Assumes nothing.
use Rattle.std.proofs.Common.{subst, ℕ, ◌+◌, ◌-◌, ◌≡◌, ◌≤◌, List, ◌++◌, length, take, sym, ap, ◌∙◌, append_assoc, arith, None, Some, IfSome, ◌<◌, append-nil}
use Rattle.std.specs.Io.KnownBytes.{Appends, Consumes, IsAtEnd}
use Rattle.std.specs.declared.option.Option.{Option}
use Rattle.std.proofs.Math.Seq.{length-take-le, take-append-add}
use Rattle.std.proofs.lemmas.List.{take-append-le}
use native.Mathlib.Decide.{dec_lt}
use borrow.Rule.Slice.PartMut.{put_mid, post_of}

-- more is read
pub read_more : (a b c : Option (List ℕ)) (xs ys : List ℕ) → Consumes a b xs → Consumes b c ys → Consumes a c (xs ++ ys)
read_more None b c xs ys p q = tt
read_more (Some ws) None c xs ys p q = absurd p
read_more (Some ws) (Some bs) None xs ys p q = absurd q
read_more (Some ws) (Some bs) (Some cs) xs ys p q = p ∙ ap (λ (l : List ℕ). xs ++ l) q ∙ sym (append_assoc xs ys cs)

-- what stands at the start of a buffer when n octets are read behind its first k
pub take_read : (k n : ℕ) (xs ys : List ℕ) → k ≤ length xs → n ≤ length ys
    → take (k + n) (put_mid k (length xs - k) xs ys) ≡ take k xs ++ take n ys
take_read k n xs ys inside some =
    let post = post_of k (length xs - k) xs in
    let e : length (take k xs) ≡ k = length-take-le k xs inside in
    ap (λ (m : ℕ). take (m + n) (take k xs ++ (ys ++ post))) (sym e)
    ∙ take-append-add (take k xs) (ys ++ post) n
    ∙ ap (λ (l : List ℕ). take k xs ++ l) (take-append-le n ys post some)

-- What a function says of all that a reader had is what it says of what was read, where that is all, or where it says the same of more.
pub read_enough : (f : List ℕ → List ℕ) (known rest : Option (List ℕ)) (space : List ℕ) (n : ℕ) → n ≤ length space
    → Consumes known rest (take n space) → (n < length space → IsAtEnd rest)
    → ((xs ys : List ℕ) → length xs ≡ length space → f (xs ++ ys) ≡ f xs)
    → IfSome known (λ (all : List ℕ). f (take n space) ≡ f all)
read_enough f None rest space n inside read whole more = tt
read_enough f (Some all) None space n inside read whole more = absurd read
read_enough f (Some all) (Some ys) space n inside read whole more = go (dec_lt n (length space))
  where
    go : Dec (n < length space) → f (take n space) ≡ f all
    go (yes short) = ap f (sym (read ∙ ap (λ (l : List ℕ). take n space ++ l) (whole short) ∙ append-nil (take n space)))
    go (no full) =
        let e : n ≡ length space = omega (arith, full) in
        sym (ap f read ∙ more (take n space) ys (length-take-le n space inside ∙ e))

-- so where that is written, it is what the function says of all
pub written_enough : (f : List ℕ → List ℕ) (known to new : Option (List ℕ)) (got text : List ℕ)
    → IfSome known (λ (all : List ℕ). f got ≡ f all) → text ≡ f got → Appends to new text
    → IfSome known (λ (all : List ℕ). Appends to new (f all))
written_enough f None to new got text same is put = tt
written_enough f (Some all) to new got text same is put = subst (Appends to new) (is ∙ same) put
