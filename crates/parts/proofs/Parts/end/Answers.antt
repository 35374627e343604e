-- `parts::Parts::end` meets its contract. Assumes nothing.
use Rattle.std.proofs.Common.{ap, sym, ◌∙◌, ◌≡◌, ◌+◌, arith, length, rules, []}
use Rattle.std.specs.List.{count_by}
use Rattle.std.proofs.lemmas.List.Splits.{length-slice_split}
use Rattle.parts.specs.Parts.{is_space, parts_of}
use Rattle.parts.proofs.Parts.end.Goals as goal

pub returns-in-Some : goal.returns-in-Some
returns-in-Some c = (
  λ h. search rules,
  λ h.
      let left = c.in-Some.field-0.now in
      let none : parts_of left ≡ [] = search rules in
      let count : count_by is_space left + 1 ≡ 0 = sym (length-slice_split is_space left) ∙ ap length none in
      absurd (omega arith),
)
