-- `kind::kind_named` meets its contract. Assumes nothing.
use Rattle.std.proofs.Common.{sym, ◌∙◌}
use Rattle.kind.proofs.LabelLaws.{named_or}
use Rattle.kind.proofs.kind_named.Goals as goal

pub returns : goal.returns
returns c = c.ok_or.ensures.value ∙ rw (c.find_label.ensures, c.from.ensures, c.of.ensures) (sym (named_or c.args.label))
