-- `line::image` meets its contract. Assumes nothing.
use mathlib.Core.Path.{ap₂, ◌∙◌}
use Prim.Native.Nat.{ℕ, ◌*◌, ◌%◌, ◌^◌}
use borrow.Author.Rules.{rules}
use lib.Bits.{bit_or}
use Rattle.std.specs.Int.{w128, to_be_bytes}
use Rattle.line.proofs.WindowLaws.{window_bytes}
use Rattle.line.proofs.image.Goals as goal

pub returns : goal.returns
returns c =
    c.to_be_bytes.ensures
    ∙ ap₂ (λ (m n : ℕ). to_be_bytes w128 (bit_or ((m * 2 ^ 64) % 2 ^ 128) n)) c.from.ensures c.from-2.ensures
    ∙ window_bytes c.args.window (search rules) (search rules)
