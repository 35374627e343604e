-- `parts::cut` meets its contract. Assumes nothing.
use Rattle.std.proofs.Common.{◌+◌, ◌∷◌, take, drop, sym, ap, ◌∙◌, rules}
use Rattle.std.proofs.lemmas.List.Sums.{position_or_len_is}
use Rattle.std.proofs.lemmas.List.Splits.{slice_split_none, slice_split_first}
use Rattle.std.proofs.lemmas.List.{take_rest}
use Rattle.parts.specs.Parts.{is_space, parts_of}
use Rattle.parts.proofs.cut.Goals as goal

pub returns-in-Some : goal.returns-in-Some
returns-in-Some c =
    let line = c.args.line.now in
    let found = position_or_len_is is_space line c.in-Some.at 0 (search rules) (search rules) (search rules) in
    slice_split_first is_space line 0 (search rules)
    ∙ (ap (λ n. take n line ∷ parts_of (drop (n + 1) line)) found
    ∙ ap (λ rest. take c.in-Some.at line ∷ parts_of rest) (sym (take_rest line (c.in-Some.at + 1))))

pub returns-in-None : goal.returns-in-None
returns-in-None c = slice_split_none is_space c.args.line.now (search rules)
