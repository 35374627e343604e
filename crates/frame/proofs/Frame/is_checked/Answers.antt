-- `frame::Frame::is_checked` meets its contract. Assumes nothing.
use mathlib.Core.Path.{refl}
use Prim.Native.Nat.{◌+◌, ◌%◌}
use borrow.Author.Rules.{rules}
use lib.Dec.{eqb}
use Rattle.frame.specs.Frame.{frame_at, column_of}
use Rattle.frame.proofs.EveryLaws.{every_by_all}
use Rattle.frame.proofs.FrameLaws.{column_ones}
use Rattle.frame.proofs.Frame.is_checked.Goals as goal

pub returns : goal.returns
returns c =
    let a = c.args in
    every_by_all (λ k. eqb (column_of (frame_at a.self.octets.now a.self.position) (k + 1) % 2) 1) 6 refl c.all.ensures.ran
    (λ x b q k. let e = column_ones a.self.octets.now a.self.position (x + 1) in search rules)
