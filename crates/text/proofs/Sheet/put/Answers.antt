-- `text::Sheet::put` meets its contract. Assumes nothing.
use Rattle.std.proofs.Common.{refl}
use borrow.Rule.Slice.PartMut.{same_len_mid}
use Rattle.text.proofs.WroteLaws.{put_part}
use Rattle.text.proofs.Sheet.put.Goals as goal

pub returns : goal.returns
returns c =
    let s = c.args.self.now in
    record {
      lent = refl;
      same_length = same_len_mid s.written _ s.out.now _ c.copy_from_slice.auto.self;
      wrote = put_part s.out.now _ s.written _ c.args.text.now c.copy_from_slice.ensures.after refl;
    }
