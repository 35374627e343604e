-- `frame::Frame::is_marked` meets its contract. Assumes nothing.
use mathlib.Core.Bool.{Bool}
use mathlib.Core.Path.{◌≡◌, refl, sym, ap, ◌∙◌}
use Prim.Native.Nat.{ℕ, ◌+◌, ◌*◌}
use borrow.Author.Rules.{rules}
use lib.Dec.{eqb}
use Rattle.bits.specs.Tests.{both, every}
use Rattle.frame.specs.Frame.{frame_at}
use Rattle.frame.proofs.EveryLaws.{every_by_all}
use Rattle.frame.proofs.Frame.is_marked.Goals as goal
use Rattle.frame.proofs.Frame.is_marked.Goals.{After-all}

marks : (c : After-all) → c.all.result ≡ every (λ g. eqb (frame_at c.args.self.octets.now c.args.self.position (8 * g + 9)) 1) 15
marks c = every_by_all _ 15 refl c.all.ensures.ran (λ x b q k. search rules)

pub returns-then-all : goal.returns-then-all
returns-then-all c =
    let f = frame_at c.args.self.octets.now c.args.self.position in
    ap (λ (n : ℕ). eqb n 1) c.bit.ensures
    ∙ ap (λ (t : Bool). both t (eqb (f 128) 1)) (sym c.if-all.true ∙ marks (goal.at.returns-then-all c).After-all)

pub returns-else-all : goal.returns-else-all
returns-else-all c =
    let f = frame_at c.args.self.octets.now c.args.self.position in
    c.if-all.false ∙ ap (λ (t : Bool). both t (eqb (f 128) 1)) (sym c.if-all.false ∙ marks (goal.at.returns-else-all c).After-all)
