-- `pair::is_pair` meets its contract. Assumes nothing.
use mathlib.Core.Path.{◌∙◌, ap₂}
use Rattle.pair.specs.Pairs.{pair_of}
use Rattle.pair.proofs.Table.{pairs, entry, pair_at}
use Rattle.pair.proofs.is_pair.Goals as goal

pub returns : goal.returns
unfolding pairs pair_of
returns c =
    let n = c in
    let m = c in
    ap₂ entry n.number.ensures.0 m.number-2.ensures.0
    ∙ pair_at n.args.first n.args.second
