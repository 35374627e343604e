-- Laws of checks in order, and of what a refusal leaves. Assumes nothing.
use mathlib.Core.Path.{◌≡◌, refl, sym, ap, ap₂, ◌∙◌}
use mathlib.Core.Bool.{Bool, true, false}
use mathlib.Core.List.{List, [], ◌∷◌, ◌++◌}
use mathlib.Core.Logic.{◌↔◌, ◌⊎◌, inl, inr}
use Prim.Native.Nat.{ℕ, ◌≤◌}
use native.Mathlib.Omega.{arith}
use borrow.Author.Tests.{eq-eqb, ne_eqb, eqb-true}
use lib.Dec.{eqb}
use Rattle.std.specs.Prelude.{Result, Ok, Err}
use Rattle.bits.specs.Tests.{pick, both, is_between}
use Rattle.layout.specs.declared.Cause.{Cause}
use Rattle.layout.specs.declared.Cause.TheVariants.{Pattern, Spare, Unused, TooWide}
use Rattle.layout.specs.Trouble.{Checked, nothing, wrong, is_nothing}
use Rattle.bits.proofs.TestLaws.{both_true, between, in_between, clash, zero_one}
use Rattle.layout.proofs.LayoutLaws.{nothing_is}
use Rattle.refusal.specs.Refusals.{success, no_frame, bad_pattern, spare_bit, unused_code, too_wide, numbered, cause_number, inside_at, troubled}
use Rattle.refusal.specs.Table.{of_table, Step, stands_at, in_order, is_told, among}
use Rattle.refusal.specs.Checks.{Check, test, inside, is_passed, told_by, first_refusal, on_success, answered, refusal_in}
use Rattle.refusal.specs.declared.Refusal.{Refusal}

-- ---- a refusal of the table (01, 'Numbers a caller may get back'; 02, items 4 and 6)

-- a refusal of a test, with a number of 1 to 10
abbrev is_plain : Refusal → Bool
is_plain r = both (is_between 1 no_frame r.number) (of_table r)

-- every check of a list, if it is not passed, refuses with a number of the table
abbrev refuses : Check → Bool
refuses (test passed r) = is_plain r
refuses (inside place t) = is_between 1 2 place

abbrev pub all_refuse : List Check → Bool
all_refuse [] = true
all_refuse (c ∷ cs) = both (refuses c) (all_refuse cs)

-- a trouble begins at one of the bits above the label, and so does every trouble of a list of checks
abbrev pub InMessage : Checked → Type 0
InMessage (Ok u) = Unit {0}
InMessage (Err t) = (7 ≤ t.bit) × (t.bit ≤ 49)

abbrev pub AllInMessage : List Check → Type 0
AllInMessage [] = Unit {0}
AllInMessage (test passed r ∷ cs) = AllInMessage cs
AllInMessage (inside place t ∷ cs) = InMessage t × AllInMessage cs

plain_number : (r : Refusal) → is_plain r ≡ true → (1 ≤ r.number) × (r.number ≤ no_frame)
plain_number r e = in_between 1 no_frame r.number (both_true {a = is_between 1 no_frame r.number} {b = of_table r} e).0

cause_from : (c : Cause) → is_between bad_pattern too_wide (cause_number c) ≡ true
cause_from Pattern = refl
cause_from Spare = refl
cause_from Unused = refl
cause_from TooWide = refl

pub cause_number_lem : (c : Cause) → bad_pattern ≤ cause_number c
cause_number_lem c = (in_between bad_pattern too_wide (cause_number c) (cause_from c)).0

-- a refusal, and no success
abbrev pub Refuses : Refusal → Type 0
Refuses r = r.number ≡ success → ⊥

wrong_refuses : (place : ℕ) (c : Cause) (b : ℕ) → Refuses (inside_at place c b)
wrong_refuses place c b z = omega (arith, cause_number_lem c)

-- a check that is not passed refuses
not_success : (c : Check) → refuses c ≡ true → is_passed c ≡ false → Refuses (told_by c)
not_success (test passed r) e f z = omega (arith, (plain_number r e).0)
not_success (inside place (Ok u)) e f z = clash refl f
not_success (inside place (Err t)) e f z = wrong_refuses place t.cause t.bit z

inside_of_table : (place : ℕ) (c : Cause) (b : ℕ) → is_between 1 2 place ≡ true → InMessage (wrong c b) → of_table (inside_at place c b) ≡ true
inside_of_table place c b e (low, high) = go c
  where
    row : both (is_between 1 2 place) (is_between 7 49 b) ≡ true
    row = ap₂ both e (between 7 49 b low high)

    go : (c : Cause) → of_table (inside_at place c b) ≡ true
    go Pattern = row
    go Spare = row
    go Unused = row
    go TooWide = row

told_of_table : (c : Check) → refuses c ≡ true → AllInMessage (c ∷ []) → is_passed c ≡ false → of_table (told_by c) ≡ true
told_of_table (test passed r) e m f = (both_true {a = is_between 1 no_frame r.number} {b = of_table r} e).1
told_of_table (inside place (Ok u)) e m f = absurd (clash refl f)
told_of_table (inside place (Err t)) e m f = inside_of_table place t.cause t.bit e m.0

-- the first check, and those after it
heads : (c : Check) (cs : List Check) → all_refuse (c ∷ cs) ≡ true → (refuses c ≡ true) × (all_refuse cs ≡ true)
heads c cs e = both_true {a = refuses c} {b = all_refuse cs} e

bits_of_lem : (c : Check) (cs : List Check) → AllInMessage (c ∷ cs) → AllInMessage (c ∷ []) × AllInMessage cs
bits_of_lem (test passed r) cs m = (tt, m)
bits_of_lem (inside place t) cs m = ((m.0, tt), m.1)

pub first_of_table : (cs : List Check) → all_refuse cs ≡ true → AllInMessage cs → of_table (first_refusal cs) ≡ true
first_of_table [] e m = refl
first_of_table (c ∷ cs) e m = go (is_passed c) refl (first_of_table cs (heads c cs e).1 (bits_of_lem c cs m).1)
  where
    go : (t : Bool) → is_passed c ≡ t → of_table (first_refusal cs) ≡ true → of_table (pick t (first_refusal cs) (told_by c)) ≡ true
    go true f ih = ih
    go false f ih = told_of_table c (heads c cs e).0 (bits_of_lem c cs m).0 f

-- ---- what is told stands in the order of the checks

-- what is wrong inside a message has one of the numbers lo to hi, and so has every trouble of a list of checks
abbrev pub Numbered : ℕ → ℕ → Checked → Type 0
Numbered lo hi (Ok u) = Unit {0}
Numbered lo hi (Err t) = (lo ≤ cause_number t.cause) × (cause_number t.cause ≤ hi)

abbrev pub AllNumbered : ℕ → ℕ → List Check → Type 0
AllNumbered lo hi [] = Unit {0}
AllNumbered lo hi (test passed r ∷ cs) = AllNumbered lo hi cs
AllNumbered lo hi (inside place t ∷ cs) = Numbered lo hi t × AllNumbered lo hi cs

module _ (lo hi : ℕ) where
  numbers_of : (c : Check) (cs : List Check) → AllNumbered lo hi (c ∷ cs) → AllNumbered lo hi (c ∷ []) × AllNumbered lo hi cs
  numbers_of (test passed r) cs n = (tt, n)
  numbers_of (inside place t) cs n = ((n.0, tt), n.1)

  told_at : (c : Check) (s : Step) → stands_at lo hi c s ≡ true → AllNumbered lo hi (c ∷ []) → is_passed c ≡ false → is_told s (told_by c) ≡ true
  told_at (test passed r) s e n f =
      let p = both_true {a = eqb r.number s.from} {b = both (eqb r.number s.to) (eqb r.place s.place)} e in
      let q = both_true {a = eqb r.number s.to} {b = eqb r.place s.place} p.1 in
      let low : r.number ≡ s.from = eqb-true _ _ p.0 in
      let high : r.number ≡ s.to = eqb-true _ _ q.0 in
      ap₂ both (between s.from s.to r.number (omega arith) (omega arith)) q.1
  told_at (inside place (Ok u)) s e n f = absurd (clash refl f)
  told_at (inside place (Err t)) s e n f =
      let p = both_true {a = eqb s.from lo} {b = both (eqb s.to hi) (eqb place s.place)} e in
      let q = both_true {a = eqb s.to hi} {b = eqb place s.place} p.1 in
      let low : s.from ≡ lo = eqb-true _ _ p.0 in
      let high : s.to ≡ hi = eqb-true _ _ q.0 in
      let w = n.0 in
      ap₂ both (between s.from s.to (cause_number t.cause) (omega (arith, w.0)) (omega (arith, w.1))) q.1

  pub told_among : (cs : List Check) (order : List Step) → in_order lo hi cs order ≡ true → AllNumbered lo hi cs → among order (first_refusal cs) ≡ true
  told_among [] [] e n = refl
  told_among [] (s ∷ ss) e n = absurd (clash e refl)
  told_among (c ∷ cs) [] e n = absurd (clash e refl)
  told_among (c ∷ cs) (s ∷ ss) e n = go (is_passed c) refl (told_among cs ss p.1 (numbers_of c cs n).1)
    where
      p : (stands_at lo hi c s ≡ true) × (in_order lo hi cs ss ≡ true)
      p = both_true {a = stands_at lo hi c s} {b = in_order lo hi cs ss} e

      either : (t : Bool) {b : Bool} → b ≡ true → pick t true b ≡ true
      either true f = refl
      either false f = f

      go : (t : Bool) → is_passed c ≡ t → among ss (first_refusal cs) ≡ true → among (s ∷ ss) (pick t (first_refusal cs) (told_by c)) ≡ true
      go true f ih = either (is_told s (first_refusal cs)) ih
      go false f ih = ap (λ (t : Bool). pick t true (among ss (told_by c))) (told_at c s p.0 (numbers_of c cs n).0 f)

-- ---- a refusal of 12 to 15 is what is first wrong inside a message, and every check before it is passed

abbrev pub Told : ℕ → Cause → ℕ → List Check → Type 0
Told place c b [] = ⊥
Told place c b (test passed r ∷ cs) = (passed ≡ true) × Told place c b cs
Told place c b (inside p t ∷ cs) = ((p ≡ place) × (t ≡ wrong c b)) ⊎ ((t ≡ nothing) × Told place c b cs)

-- no two causes have one number
abbrev cause_of : ℕ → Cause
cause_of n = pick (eqb n bad_pattern) Pattern (pick (eqb n spare_bit) Spare (pick (eqb n unused_code) Unused TooWide))

cause_back : (c : Cause) → cause_of (cause_number c) ≡ c
cause_back Pattern = refl
cause_back Spare = refl
cause_back Unused = refl
cause_back TooWide = refl

same_cause : (c d : Cause) → cause_number c ≡ cause_number d → c ≡ d
same_cause c d e = sym (cause_back c) ∙ ap cause_of e ∙ cause_back d

pub first_told : (cs : List Check) → all_refuse cs ≡ true → (place : ℕ) (cause : Cause) (bit : ℕ) → first_refusal cs ≡ inside_at place cause bit → Told place cause bit cs
first_told [] e place cause bit f = absurd (omega (arith, ap (λ (r : Refusal). r.number) f, cause_number_lem cause))
first_told (test true r ∷ cs) e place cause bit f = (refl, first_told cs (heads (test true r) cs e).1 place cause bit f)
first_told (test false r ∷ cs) e place cause bit f =
    absurd (omega (arith, ap (λ (r : Refusal). r.number) f, cause_number_lem cause, (plain_number r (heads (test false r) cs e).0).1))
first_told (inside p (Ok u) ∷ cs) e place cause bit f = inr (refl, first_told cs (heads (inside p nothing) cs e).1 place cause bit f)
first_told (inside p (Err t) ∷ cs) e place cause bit f =
    inl (ap (λ (r : Refusal). r.place) f, ap₂ wrong (same_cause t.cause cause (ap (λ (r : Refusal). r.number) f)) (ap (λ (r : Refusal). r.bit) f))

-- ---- success is what comes if every check is passed

abbrev pub Passes : Check → Type 0
Passes (test passed r) = passed ≡ true
Passes (inside place t) = t ≡ nothing

abbrev pub Passed : List Check → Type 0
Passed [] = Unit {0}
Passed (c ∷ cs) = Passes c × Passed cs

to_passes : (c : Check) → is_passed c ≡ true → Passes c
to_passes (test passed r) e = e
to_passes (inside place t) e = nothing_is t e

from_passes : (c : Check) → Passes c → is_passed c ≡ true
from_passes (test passed r) e = e
from_passes (inside place t) e = ap is_nothing e

pub success_passed : (cs : List Check) → all_refuse cs ≡ true → (first_refusal cs).number ≡ success → Passed cs
success_passed [] e z = tt
success_passed (c ∷ cs) e z = go (is_passed c) refl z (success_passed cs (heads c cs e).1)
  where
    go : (t : Bool) → is_passed c ≡ t → (pick t (first_refusal cs) (told_by c)).number ≡ success
        → ((first_refusal cs).number ≡ success → Passed cs) → Passed (c ∷ cs)
    go true p q ih = (to_passes c p, ih q)
    go false p q ih = absurd (not_success c (heads c cs e).0 p q)

pub passed_success : (cs : List Check) → Passed cs → first_refusal cs ≡ numbered success
passed_success [] p = refl
passed_success (c ∷ cs) p = ap (λ (t : Bool). pick t (first_refusal cs) (told_by c)) (from_passes c p.0) ∙ passed_success cs p.1

pub success_exactly : (cs : List Check) → all_refuse cs ≡ true → (first_refusal cs ≡ numbered success) ↔ Passed cs
success_exactly cs e = (λ z. success_passed cs e (ap (λ (r : Refusal). r.number) z), passed_success cs)

-- success is number 0, place 0 and bit 0
pub success_whole : (cs : List Check) → all_refuse cs ≡ true → (first_refusal cs).number ≡ success → first_refusal cs ≡ numbered success
success_whole cs e z = passed_success cs (success_passed cs e z)

-- ---- more checks after those there are

pub first_more : (cs ds : List Check) → all_refuse cs ≡ true → first_refusal (cs ++ ds) ≡ on_success (first_refusal cs) (first_refusal ds) (first_refusal cs)
first_more [] ds e = refl
first_more (c ∷ cs) ds e = go (is_passed c) refl (first_more cs ds (heads c cs e).1)
  where
    go : (t : Bool) → is_passed c ≡ t → first_refusal (cs ++ ds) ≡ on_success (first_refusal cs) (first_refusal ds) (first_refusal cs)
        → pick t (first_refusal (cs ++ ds)) (told_by c) ≡ on_success (pick t (first_refusal cs) (told_by c)) (first_refusal ds) (pick t (first_refusal cs) (told_by c))
    go true f ih = ih
    go false f ih =
        sym (ap (λ (t : Bool). pick t (first_refusal ds) (told_by c)) (ne_eqb _ _ (not_success c (heads c cs e).0 f)))

-- ---- what a success gives, and what a refusal leaves

module _ {A : Type 0} (r : Refusal) (new old : A) where
  pub given : r.number ≡ success → on_success r new old ≡ new
  given e = ap (λ (t : Bool). pick t new old) (eq-eqb _ _ e)

  pub left : Refuses r → on_success r new old ≡ old
  left h = ap (λ (t : Bool). pick t new old) (ne_eqb _ _ h)

  -- the same of a refusal that another is equal to
  pub stays : {s : Refusal} → r ≡ s → Refuses s → on_success r new old ≡ old
  stays e h = left (λ z. h (sym (ap (λ (x : Refusal). x.number) e) ∙ z))

-- an answer, by its refusal
module _ {A : Type 0} (value : A) where
  pub answer_refused : {s r : Refusal} → s ≡ r → Refuses r → answered s value ≡ Err r
  answer_refused {s} {r} e h = stays s (Ok value) (Err s) e h ∙ ap Err e

  -- an answer that is a value is the value, and nothing was refused
  pub answer_is : (s : Refusal) (v : A) → answered s value ≡ Ok v → (s.number ≡ success) × (value ≡ v)
  answer_is s v e = go (eqb s.number success) refl e
    where
      go : (t : Bool) → eqb s.number success ≡ t → pick t (Ok value) (Err s) ≡ Ok v → (s.number ≡ success) × (value ≡ v)
      go true f q = (eqb-true _ _ f, cc)
      go false f q = zero_one (cc)

  -- an answer that is a refusal is that of the checks
  pub answer_not : (s r : Refusal) → answered s value ≡ Err r → (s ≡ r) × Refuses r
  answer_not s r e = go (eqb s.number success) refl e
    where
      go : (t : Bool) → eqb s.number success ≡ t → pick t (Ok value) (Err s) ≡ Err r → (s ≡ r) × Refuses r
      go true f q = zero_one (cc)
      go false f q = let is : s ≡ r = cc in (is, λ z. clash (eq-eqb _ _ (ap (λ (x : Refusal). x.number) is ∙ z)) f)

  -- the refusal of an answer is that of its checks
  pub answer_tells : (cs : List Check) → all_refuse cs ≡ true → refusal_in (answered (first_refusal cs) value) ≡ first_refusal cs
  answer_tells cs all = go (eqb (first_refusal cs).number success) refl
    where
      go : (t : Bool) → eqb (first_refusal cs).number success ≡ t → refusal_in (pick t (Ok value) (Err (first_refusal cs))) ≡ first_refusal cs
      go true f = sym (success_whole cs all (eqb-true _ _ f))
      go false f = refl

-- a call that writes a buffer: a refusal is answered, and leaves what stood there; else what is written stands there
module _ {A : Type 0} (r : Refusal) (new old : A) where
  pub left_by : (s : Refusal) → r ≡ s → Refuses s → (Err s ≡ answered {A = Unit {0}} r tt) × (old ≡ on_success r new old)
  left_by s e h = (sym (answer_refused tt e h), sym (stays r new old e h))

  pub written_by : r ≡ numbered success → (Ok tt ≡ answered {A = Unit {0}} r tt) × (new ≡ on_success r new old)
  written_by e = (sym (ap (λ (x : Refusal). answered x tt) e), sym (given r new old (ap (λ (x : Refusal). x.number) e)))

-- a call whose checks come in two stages, where the first stage has an answer of its own: its refusal is passed up whole; where it refuses
-- nothing the second stage decides
module _ (cs ds : List Check) (all : all_refuse cs ≡ true) where
  pub more_refused : {r : Refusal} → first_refusal cs ≡ r → Refuses r → first_refusal (cs ++ ds) ≡ r
  more_refused e h = first_more cs ds all ∙ stays (first_refusal cs) _ _ e h ∙ e

  pub more_passed : (first_refusal cs).number ≡ success → first_refusal (cs ++ ds) ≡ first_refusal ds
  more_passed z = first_more cs ds all ∙ given (first_refusal cs) _ _ z

  module _ {A B : Type 0} (value : A) (value' : B) where
    pub stage_refused : (r : Refusal) → answered (first_refusal cs) value ≡ Err r → Err r ≡ answered (first_refusal (cs ++ ds)) value'
    stage_refused r e = let p = answer_not value (first_refusal cs) r e in sym (answer_refused value' (more_refused p.0 p.1) p.1)

    pub stage_passed : (v : A) → answered (first_refusal cs) value ≡ Ok v
        → (value ≡ v) × (answered (first_refusal ds) value' ≡ answered (first_refusal (cs ++ ds)) value')
    stage_passed v e =
        let p = answer_is value (first_refusal cs) v e in (p.1, sym (ap (λ (r : Refusal). answered r value') (more_passed p.0)))

-- an answer about the inside of message `place`: it is the value and nothing is wrong, or the refusal, which is passed up whole
module _ {A : Type 0} (value : A) (place : ℕ) where
  pub inside_wrong : (c : Cause) (b : ℕ) → answered (troubled place (wrong c b)) value ≡ Err (inside_at place c b)
  inside_wrong c b = answer_refused value refl (wrong_refuses place c b)

  pub inside_value : (t : Checked) (v : A) → answered (troubled place t) value ≡ Ok v → (t ≡ nothing) × (value ≡ v)
  inside_value (Ok u) v e = (refl, cc)
  inside_value (Err t) v e = let q : Err (inside_at place t.cause t.bit) ≡ Ok v = sym (inside_wrong t.cause t.bit) ∙ e in zero_one (cc)

  pub inside_refused : (t : Checked) (r : Refusal) → answered (troubled place t) value ≡ Err r
      → Refuses r × ((cs : List Check) → first_refusal (inside place t ∷ cs) ≡ r)
  inside_refused (Ok u) r e = zero_one (cc)
  inside_refused (Err t) r e =
      let q : Err (inside_at place t.cause t.bit) ≡ Err r = sym (inside_wrong t.cause t.bit) ∙ e in
      let is : inside_at place t.cause t.bit ≡ r = cc in
      (λ z. wrong_refuses place t.cause t.bit (ap (λ (x : Refusal). x.number) is ∙ z), λ cs. is)

-- ---- demand 1, of any checks: the refusal is one of the table, and what it leaves

module _ (cs : List Check) (all : all_refuse cs ≡ true) (bits : AllInMessage cs) where
  -- of a call that writes a buffer, which is as it was
  pub buffer_left : {A : Type 0} (new old : A) {after : A} {r : Refusal} → r ≡ first_refusal cs → after ≡ on_success (first_refusal cs) new old
      → (of_table r ≡ true) × (Refuses r → after ≡ old)
  buffer_left new old e f =
      (ap of_table e ∙ first_of_table cs all bits, λ h. f ∙ stays (first_refusal cs) new old (sym e) h)

  -- of any call that answers a value or a refusal: what it refuses is never a success
  pub refusal_told : {A : Type 0} (value : A) {r : Result A Refusal} → r ≡ answered (first_refusal cs) value
      → (of_table (refusal_in r) ≡ true) × ((x : Refusal) → r ≡ Err x → Refuses x)
  refusal_told value e =
      (ap of_table (ap refusal_in e ∙ answer_tells value cs all) ∙ first_of_table cs all bits, λ x q. (answer_not value (first_refusal cs) x (sym e ∙ q)).1)
