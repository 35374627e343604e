-- What a search answers: the position is the least, and where 10 is answered there is none. Assumes nothing.
use mathlib.Core.Path.{◌≡◌, refl, sym, ap, subst, ◌∙◌}
use mathlib.Core.Bool.{Bool, true, false}
use mathlib.Core.List.{List, [], ◌∷◌}
use mathlib.Core.Logic.{◌↔◌}
use Prim.Native.Nat.{ℕ, zero, suc, ◌+◌, ◌-◌, ◌*◌, ◌≤◌, ◌<◌}
use native.Mathlib.Omega.{arith}
use borrow.Author.Tests.{le-leb, lt-leb, leb-true, eqb-true}
use lib.Dec.{eqb, leb}
use lib.ListN.{length}
use Rattle.bits.specs.Tests.{pick}
use Rattle.std.proofs.Common.{Result, Ok, Err}
use Rattle.refusal.specs.Refusals.{success, bad_length, out_of_range, no_frame, numbered}
use Rattle.refusal.specs.Checks.{check, first_refusal, answered, refusal_in}
use Rattle.refusal.specs.declared.Refusal.{Refusal}
use Rattle.sieve.specs.Capture.{good_at, NoneIn, Least, NoneFrom}
use Rattle.capture.specs.Search.{first_good, least_from, search_checks, search_refusal, search_of}
use Rattle.bits.proofs.TestLaws.{by_lt, clash, zero_one}
use Rattle.refusal.proofs.CheckLaws.{success_passed, answer_refused}
use Rattle.sieve.proofs.SieveLaws.{good_whole, none_end}

module _ (capture : List ℕ) where
  -- ---- the first of n positions

  first_from : (n p : ℕ) → p ≤ first_good capture p n
  unfolding first_good
  first_from zero p = omega arith
  first_from (suc n) p = go (good_at capture p) (first_from n (suc p))
    where
      go : (t : Bool) → suc p ≤ first_good capture (suc p) n → p ≤ pick t p (first_good capture (suc p) n)
      go true h = omega arith
      go false h = omega arith

  first_none : (n p q : ℕ) → p ≤ q → q < first_good capture p n → good_at capture q ≡ false
  unfolding first_good
  first_none zero p q a b = absurd (omega arith)
  first_none (suc n) p q a b = go (good_at capture p) refl b (λ l m. first_none n (suc p) q l m)
    where
      go : (t : Bool) → good_at capture p ≡ t → q < pick t p (first_good capture (suc p) n)
          → (suc p ≤ q → q < first_good capture (suc p) n → good_at capture q ≡ false) → good_at capture q ≡ false
      go true e c ih = absurd (omega arith)
      go false e c ih = by_lt p q (λ l. ih l c) (λ g. let same : q ≡ p = omega arith in ap (good_at capture) same ∙ e)

  first_is : (n p q : ℕ) → p ≤ q → q < p + n → good_at capture q ≡ true → NoneIn capture p q → first_good capture p n ≡ q
  unfolding first_good
  first_is zero p q a b good none = absurd (omega arith)
  first_is (suc n) p q a b good none =
      by_lt p q
      (λ l. rw (none p (omega arith) l) (first_is n (suc p) q l (omega arith) good (λ r c d. none r (omega arith) d)))
      (λ g. let same : q ≡ p = omega arith in rw (sym (ap (good_at capture) same) ∙ good) (sym same))

  -- where the first is not good, all n were tried
  first_end : (n p : ℕ) → good_at capture (first_good capture p n) ≡ false → first_good capture p n ≡ p + n
  unfolding first_good
  first_end zero p e = omega arith
  first_end (suc n) p e = go (good_at capture p) refl e (λ f. first_end n (suc p) f)
    where
      go : (t : Bool) → good_at capture p ≡ t → good_at capture (pick t p (first_good capture (suc p) n)) ≡ false
          → (good_at capture (first_good capture (suc p) n) ≡ false → first_good capture (suc p) n ≡ suc p + n)
          → pick t p (first_good capture (suc p) n) ≡ p + suc n
      go true f g ih = absurd (clash f g)
      go false f g ih = ih g ∙ omega arith

  module _ (start : ℕ) where
    -- ---- the checks as they come out

    pub too_long : 65536 < length capture → search_refusal capture start ≡ numbered bad_length
    unfolding search_refusal
    too_long h = rw (lt-leb _ _ h)

    module _ (short : length capture ≤ 65536) where
      pub past_end : 8 * length capture < start → search_refusal capture start ≡ numbered out_of_range
      unfolding search_refusal
      past_end h = rw (le-leb _ _ short, lt-leb _ _ h)

      module _ (inside : start ≤ 8 * length capture) where
        pub none_there : NoneFrom capture start → search_refusal capture start ≡ numbered no_frame
        unfolding search_refusal
        none_there h = rw (le-leb _ _ short, le-leb _ _ inside, h (least_from capture start) (first_from _ start))

        pub one_there : (p : ℕ) → Least capture start p → Ok p ≡ search_of capture start
        unfolding search_of search_refusal
        one_there p least =
            let whole : p + 128 ≤ 8 * length capture = good_whole capture p least.1 in
            let is : least_from capture start ≡ p = first_is _ start p least.0 (omega arith) least.1 least.2 in
            rw (le-leb _ _ short, le-leb _ _ inside, is, least.1)

    -- a refusal that the code made, which is the one of the checks
    pub refused : {made r : Refusal} → made ≡ r → (r.number ≡ success → ⊥) → search_refusal capture start ≡ r → Err made ≡ search_of capture start
    unfolding search_of
    refused made wrong e = ap Err made ∙ sym (answer_refused _ e wrong)

    -- ---- what an answer says

    -- a position that is answered is good, and no earlier one from the start on is
    pub found_least : (p : ℕ) → search_of capture start ≡ Ok p → Least capture start p
    unfolding search_of search_refusal
    found_least p e = go (eqb (search_refusal capture start).number success) refl e
      where
        go : (t : Bool) → eqb (search_refusal capture start).number success ≡ t
            → pick t (Ok (least_from capture start)) (Err (search_refusal capture start)) ≡ Ok p → Least capture start p
        go false f q = zero_one (cc)
        go true f q =
            let is : least_from capture start ≡ p = cc in
            let w = success_passed (search_checks capture start) refl (eqb-true _ _ f) in
            let least : Least capture start (least_from capture start) = (first_from _ start, w.1.1.0, λ r a b. first_none _ start r a b) in
            subst (Least capture start) is least

    -- where 10 is answered, no good frame lies at or after the start
    pub none_found : search_of capture start ≡ Err (numbered no_frame) → NoneFrom capture start
    unfolding search_of search_refusal
    none_found e = go (leb (length capture) 65536) (leb start (8 * length capture)) refl (good_at capture (least_from capture start)) refl e
      where
        go : (a b : Bool) → leb start (8 * length capture) ≡ b → (g : Bool) → good_at capture (least_from capture start) ≡ g
            → answered (first_refusal (check a bad_length ∷ check b out_of_range ∷ check g no_frame ∷ [])) (least_from capture start) ≡ Err (numbered no_frame)
            → NoneFrom capture start
        go false b p g q f = zero_one (cc)
        go true false p g q f = zero_one (cc)
        go true true p true q f = zero_one (cc)
        go true true p false q f =
            let end : least_from capture start ≡ start + (8 * length capture - start) = first_end _ start q in
            let h : start ≤ 8 * length capture = leb-true _ _ p in
            none_end capture start (least_from capture start) (λ r a b. first_none _ start r a b) (omega arith)

    -- so where a start in the capture is refused
    pub none_answered : length capture ≤ 65536 → start ≤ 8 * length capture → (r : Refusal) → search_of capture start ≡ Err r → NoneFrom capture start
    unfolding search_of search_refusal
    none_answered short inside r e = go (good_at capture (least_from capture start)) refl
      where
        go : (g : Bool) → good_at capture (least_from capture start) ≡ g → NoneFrom capture start
        go true q = let found : search_of capture start ≡ Ok (least_from capture start) = rw (le-leb _ _ short, le-leb _ _ inside, q) in zero_one (cc)
        go false q = none_found (rw (le-leb _ _ short, le-leb _ _ inside, q))

    -- ---- each answer, exactly

    told : {r : Refusal} → search_refusal capture start ≡ r → (r.number ≡ success → ⊥) → search_of capture start ≡ Err r
    told e wrong = sym (refused refl wrong e)

    too_long_told : 65536 < length capture → search_of capture start ≡ Err (numbered bad_length)
    too_long_told h = told (too_long h) (λ z. omega arith)

    past_end_told : length capture ≤ 65536 → 8 * length capture < start → search_of capture start ≡ Err (numbered out_of_range)
    past_end_told short h = told (past_end short h) (λ z. omega arith)

    none_told : length capture ≤ 65536 → start ≤ 8 * length capture → NoneFrom capture start → search_of capture start ≡ Err (numbered no_frame)
    none_told short inside none = told (none_there short inside none) (λ z. omega arith)

    one_number : {a b : ℕ} → search_of capture start ≡ Err (numbered a) → search_of capture start ≡ Err (numbered b) → a ≡ b
    one_number e f = ap (λ (x : Result ℕ Refusal). (refusal_in x).number) (sym e ∙ f)

    -- by the length and the start
    module _ {P : Type 0} (long : 65536 < length capture → P) (past : length capture ≤ 65536 → 8 * length capture < start → P)
        (within : length capture ≤ 65536 → start ≤ 8 * length capture → P) where
      by_cases : P
      by_cases = by_lt 65536 (length capture) long (λ short. by_lt (8 * length capture) start (past short) (within short))

    pub found_exactly : (p : ℕ) → (search_of capture start ≡ Ok p) ↔ ((length capture ≤ 65536) × (start ≤ 8 * length capture) × Least capture start p)
    found_exactly p = (
      λ e.
          by_cases
          (λ h. let q : Ok p ≡ Err (numbered bad_length) = sym e ∙ too_long_told h in zero_one (cc))
          (λ short h. let q : Ok p ≡ Err (numbered out_of_range) = sym e ∙ past_end_told short h in zero_one (cc))
          (λ short inside. (short, inside, found_least p e)),
      λ w. sym (one_there w.0 w.1 p w.2),
    )

    pub long_exactly : (search_of capture start ≡ Err (numbered bad_length)) ↔ (65536 < length capture)
    long_exactly = (
      λ e.
          by_cases (λ h. h)
          (λ short h. absurd (omega (arith, one_number e (past_end_told short h))))
          (λ short inside.
          absurd (omega (arith, one_number e (none_told short inside (none_answered short inside _ e))))),
      too_long_told,
    )

    pub past_exactly : (search_of capture start ≡ Err (numbered out_of_range)) ↔ ((length capture ≤ 65536) × (8 * length capture < start))
    past_exactly = (
      λ e.
          by_cases
          (λ h. absurd (omega (arith, one_number e (too_long_told h))))
          (λ short h. (short, h))
          (λ short inside.
          absurd (omega (arith, one_number e (none_told short inside (none_answered short inside _ e))))),
      λ w. past_end_told w.0 w.1,
    )

    pub none_exactly : (search_of capture start ≡ Err (numbered no_frame)) ↔ ((length capture ≤ 65536) × (start ≤ 8 * length capture) × NoneFrom capture start)
    none_exactly = (
      λ e.
          by_cases
          (λ h. absurd (omega (arith, one_number e (too_long_told h))))
          (λ short h. absurd (omega (arith, one_number e (past_end_told short h))))
          (λ short inside. (short, inside, none_found e)),
      λ w. none_told w.0 w.1 w.2,
    )
