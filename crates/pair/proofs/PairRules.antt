-- THE RULES OF THE PAIR TABLE (01, 'Which pairs may share a frame'; S.9: 02, item 1), of what the code's table answers: said over the
-- contract of `is_pair`. One computed test of all entries, and the rules at any two kinds. Assumes nothing.
use mathlib.Core.Path.{◌≡◌, refl, ap, ◌∙◌}
use mathlib.Core.Bool.{Bool, true}
use mathlib.Core.List.{List, [], ◌∷◌, map}
use Prim.Native.Nat.{ℕ, zero, suc}
use lib.ListN.{length, get_or}
use contract.Lifetimes.{Lfts}
use Rattle.bits.specs.Tests.{both, agree, implies}
use Rattle.bits.specs.Numbers.{bit, sum_of}
use Rattle.kind.specs.Layouts.{all_kinds}
use Rattle.kind.specs.declared.Kind.{Kind}
use Rattle.kind.specs.declared.Kind.TheVariants.{Blank, S0, S3, S4, S4Plus, S5, S6, S8, S8Plus, S9}
use Rattle.pair.specs.Pairs.{is_in, pair_of}
use Rattle.bits.proofs.TestLaws.{agree_is, implied, both_true}
use Rattle.kind.proofs.TableLaws.{each}
use Rattle.pair.proofs.is_pair.Reads as is-pair

-- ---- each rule, of two kinds and the table's answer to them

-- a kind of `firsts` is followed by those of `seconds` and no others
abbrev pub followed_by : List Kind → List Kind → Kind → Kind → Bool → Bool
followed_by firsts seconds first second answer = implies (is_in first firsts) (agree answer (is_in second seconds))

-- a kind of `seconds` follows those of `firsts` and no others
abbrev pub follows : List Kind → List Kind → Kind → Kind → Bool → Bool
follows seconds firsts first second answer = implies (is_in second seconds) (agree answer (is_in first firsts))

-- S.0 is followed by S.0 only, and follows nothing else; S.4+ and S.8+ are followed by S.3 or S.5, and are never second; S.4, S.6 and S.8
-- are followed by S.4, S.6, S.8 or Blank; Blank, S.3 and S.5 are never first; S.9 stands only as S.9 followed by S.9
abbrev pub pair_rules : Kind → Kind → Bool → List Bool
pair_rules first second answer =
    followed_by (S0 ∷ []) (S0 ∷ []) first second answer
    ∷ follows (S0 ∷ []) (S0 ∷ []) first second answer
    ∷ followed_by (S4Plus ∷ S8Plus ∷ []) (S3 ∷ S5 ∷ []) first second answer
    ∷ follows (S4Plus ∷ S8Plus ∷ []) [] first second answer
    ∷ followed_by (S4 ∷ S6 ∷ S8 ∷ []) (S4 ∷ S6 ∷ S8 ∷ Blank ∷ []) first second answer
    ∷ followed_by (Blank ∷ S3 ∷ S5 ∷ []) [] first second answer
    ∷ followed_by (S9 ∷ []) (S9 ∷ []) first second answer
    ∷ follows (S9 ∷ []) (S9 ∷ []) first second answer
    ∷ []

abbrev pub all_pass : List Bool → Bool
all_pass [] = true
all_pass (b ∷ bs) = both b (all_pass bs)

-- ---- one test of all entries

abbrev kept : List Bool
kept = map (λ (second : Kind). true) all_kinds

abbrev ruled : Kind → Kind → Bool
ruled first second = all_pass (pair_rules first second (pair_of first second))

rules_kept : map (λ (first : Kind). map (ruled first) all_kinds) all_kinds ≡ map (λ (first : Kind). kept) all_kinds
unfolding pair_of
rules_kept = refl

-- ---- the rules at any two kinds, of the definition and of what the code answers

ruled_at : (first second : Kind) → ruled first second ≡ true
ruled_at first second = each (ruled first) (λ second. true) (each (λ (k : Kind). map (ruled k) all_kinds) (λ k. kept) rules_kept first) second

pub pair_rules_lem : (κs : Lfts 0) (first second : Kind) (answer : Bool) (e : _) → is-pair.Post κs (first, (second, tt)) answer e → all_pass (pair_rules first second answer) ≡ true
pair_rules_lem κs first second answer e p = ap (λ (t : Bool). all_pass (pair_rules first second t)) p ∙ ruled_at first second

passes : (bs : List Bool) → all_pass bs ≡ true → (i : ℕ) → get_or bs i true ≡ true
passes [] e i = refl
passes (b ∷ bs) e zero = (both_true {a = b} {b = all_pass bs} e).0
passes (b ∷ bs) e (suc i) = passes bs (both_true {a = b} {b = all_pass bs} e).1 i

-- rule i, from 0
pub rule_at : (first second : Kind) (i : ℕ) → get_or (pair_rules first second (pair_of first second)) i true ≡ true
rule_at first second = passes (pair_rules first second (pair_of first second)) (ruled_at first second)

-- what two rules say of the answer
module _ (some others : List Kind) (first second : Kind) (answer : Bool) where
  pub followed_means : followed_by some others first second answer ≡ true → is_in first some ≡ true → answer ≡ is_in second others
  followed_means e h = agree_is answer (is_in second others) (implied (is_in first some) (agree answer (is_in second others)) e h)

  pub follows_means : follows some others first second answer ≡ true → is_in second some ≡ true → answer ≡ is_in first others
  follows_means e h = agree_is answer (is_in first others) (implied (is_in second some) (agree answer (is_in first others)) e h)

-- how many of its answers are yes
pub pairs_counted : (κs : Lfts 0) (table : Kind → Kind → Bool) (e : _) → ((first second : Kind) → is-pair.Post κs (first, (second, tt)) (table first second) e)
    → sum_of (λ row. sum_of (λ column. bit (table (get_or all_kinds row Blank) (get_or all_kinds column Blank))) (length all_kinds)) (length all_kinds) ≡ 18
unfolding pair_of sum_of
pairs_counted κs table e p =
    λ i. sum_of (λ row. sum_of (λ column. bit (p (get_or all_kinds row Blank) (get_or all_kinds column Blank) i)) (length all_kinds)) (length all_kinds)
