-- The values of a message, packed as its kind, are its word. Assumes nothing.
use Rattle.std.proofs.Common.{◌≡◌, ap, ◌∙◌, List, ℕ, ◌+◌, Result, arith}
use Rattle.layout.specs.Layout.{join}
use Rattle.layout.specs.Rules.{slots_of, packed_if, packed_of}
use Rattle.layout.specs.Trouble.{misfit}
use Rattle.layout.specs.declared.Trouble.{Trouble}
use Rattle.kind.specs.Layouts.{label_of, layout_of, whole_of}
use Rattle.message.specs.Messages.{kind_of, parts_of}
use Rattle.message.specs.Codec.{message_trouble, message_word, values_of}
use Rattle.message.specs.declared.Message.{Message}
use Rattle.layout.proofs.RuleLaws.{packed_layout}
use Rattle.kind.proofs.TableLaws.{sound}

-- the fields packed above the label are the whole layout joined
with_label : (m : Message)
    → packed_if (misfit 6 (layout_of (kind_of m)) (parts_of m)) (join 6 (layout_of (kind_of m)) (parts_of m) + label_of (kind_of m))
    ≡ packed_if (message_trouble m) (message_word m)
unfolding message_trouble message_word
with_label m =
    let k = kind_of m in
    let e : join 6 (layout_of k) (parts_of m) + label_of k ≡ join 0 (whole_of k) (tt, parts_of m) = omega arith in
    ap (packed_if (misfit 6 (layout_of k) (parts_of m))) e

-- what is packed from the values of m
pub packs : (m : Message) (vs : List ℕ) {r : Result ℕ Trouble} → vs ≡ values_of m
    → r ≡ packed_of (label_of (kind_of m)) 6 (slots_of (layout_of (kind_of m))) vs → r ≡ packed_if (message_trouble m) (message_word m)
packs m vs e p =
    p
    ∙ ap (packed_of (label_of (kind_of m)) 6 (slots_of (layout_of (kind_of m)))) e
    ∙ packed_layout (label_of (kind_of m)) 6 (layout_of (kind_of m)) (parts_of m) (sound (kind_of m))
    ∙ with_label m
