-- `frame::Frame::is_started` meets its contract. Assumes nothing.
use mathlib.Core.Path.{refl}
use Prim.Native.Nat.{◌+◌}
use borrow.Author.Rules.{rules}
use lib.Dec.{eqb}
use Rattle.frame.specs.Frame.{frame_at}
use Rattle.frame.proofs.EveryLaws.{every_by_all}
use Rattle.frame.proofs.Frame.is_started.Goals as goal

pub returns : goal.returns
returns c =
    let a = c.args in
    every_by_all (λ i. eqb (frame_at a.self.octets.now a.self.position (i + 1)) 0) 8 refl c.all.ensures.ran (λ x b q k. search rules)
