-- `sieve::look_in_octet` meets its contract. Assumes nothing.
use mathlib.Core.Path.{◌≡◌, refl, sym, ap, ◌∙◌}
use mathlib.Core.Bool.{false}
use mathlib.Core.List.{List}
use Prim.Native.Nat.{ℕ, ◌+◌, ◌*◌, ◌/◌, ◌≤◌, ◌<◌}
use native.Mathlib.Omega.{arith}
use borrow.Author.Rules.{rules}
use lib.Count.{count_leading_zeros}
use lib.ListN.{length, get_or}
use Rattle.bits.proofs.TestLaws.{clash}
use Rattle.sieve.specs.Capture.{good_at}
use Rattle.sieve.specs.Sieve.{Looked}
use Rattle.sieve.proofs.SieveLaws.{not_started, none_before, none_but}
use Rattle.sieve.proofs.look_in_octet.Goals as goal

-- none from p on in the octet of p: its one position lies before p or past the octet, or is not good
nothing : (s : List ℕ) (p q : ℕ) → get_or s (p / 8 + 1) 0 < 256 → q ≡ 8 * (p / 8) + count_leading_zeros 8 (get_or s (p / 8 + 1) 0)
    → p + 128 ≤ 8 * length s → (p ≤ q → q < 8 * (p / 8) + 8 → good_at s q ≡ false) → Looked s p false (8 * (p / 8) + 8)
nothing s p q octet lead whole h =
    record {
      from = omega arith;
      to = omega arith;
      none = none_but s (p / 8) q octet lead p (omega arith) h;
      found = λ e. absurd (clash e refl);
      further = λ e. omega arith;
    }

-- the same by the zeros at the front of the octet after: nothing, since that position is not good where it lies in the octet
none_there : (s : List ℕ) (p lead : ℕ) → get_or s (p / 8 + 1) 0 < 256 → lead ≡ count_leading_zeros 8 (get_or s (p / 8 + 1) 0)
    → p + 128 ≤ 8 * length s → (p ≤ 8 * (p / 8) + lead → lead < 8 → good_at s (8 * (p / 8) + lead) ≡ false) → Looked s p false (8 * (p / 8) + 8)
none_there s p lead octet is whole h =
    nothing s p _ octet (ap (λ (n : ℕ). 8 * (p / 8) + n) is) whole (λ low high. h low (omega arith))

pub returns-then-lead-eq8 : goal.returns-then-lead-eq8
returns-then-lead-eq8 c =
    none_there c.args.capture.now c.args.p _ (omega (arith, c.type_inv.capture (c.args.p / 8 + 1))) c.lead-lead.ensures.0 c.requires.0 (λ low high. absurd (omega arith))

pub returns-then-capture-i-ne0 : goal.returns-then-capture-i-ne0
returns-then-capture-i-ne0 c =
    none_there c.args.capture.now c.args.p _ (omega (arith, c.type_inv.capture (c.args.p / 8 + 1))) c.lead-lead.ensures.0 c.requires.0 (λ low high. not_started _ _ _ high c.if-capture-i-ne0.true)

pub returns-then-q-p : goal.returns-then-q-p
returns-then-q-p c =
    none_there c.args.capture.now c.args.p _ (omega (arith, c.type_inv.capture (c.args.p / 8 + 1))) c.lead-lead.ensures.0 c.requires.0 (λ low high. absurd (omega arith))

pub returns-then-is_frame : goal.returns-then-is_frame
returns-then-is_frame c =
    record {
      from = search rules;
      to = search rules;
      none =
          none_before c.args.capture.now (c.args.p / 8) _ (omega (arith, c.type_inv.capture (c.args.p / 8 + 1))) (ap (λ (n : ℕ). 8 * (c.args.p / 8) + n) c.lead-lead.ensures.0) c.args.p
          (search rules) (search rules);
      found = λ e. sym c.is_frame.ensures ∙ c.if-is_frame.true;
      further = λ e. absurd (clash refl e);
    }

pub returns : goal.returns
returns c =
    none_there c.args.capture.now c.args.p _ (omega (arith, c.type_inv.capture (c.args.p / 8 + 1))) c.lead-lead.ensures.0 c.requires.0 (λ low high. sym c.is_frame.ensures ∙ c.if-is_frame.false)
