-- `text::read_all` meets its contract. Assumes nothing.
use Rattle.std.proofs.Common.{ℕ, ◌≡◌, ◌-◌, ◌≤◌, length, drop, length-take, arith, sym, subst, ◌∙◌}
use Rattle.std.specs.Io.KnownBytes.{Consumes}
use borrow.Rule.Slice.PartMut.{put_mid, same_len_mid}
use Rattle.text.proofs.ReadLaws.{read_more, take_read}
use Rattle.text.proofs.read_all.Goals as goal

pub loop-count-preserved : goal.loop-count-preserved
loop-count-preserved g c =
    let l = c.loop-count in
    let xs = l.space in
    let ys = c.read.new.buf in
    let n = c.in-Ok.more in
    let k = l.count in
    let kept : length (put_mid k (length xs - k) xs ys) ≡ length xs = same_len_mid {X = ℕ} k (length xs - k) xs ys c.read.auto.buf in
    let room : n ≤ length ys = c.in-Ok.ensures.bound.0 in
    let part : length ys ≤ length xs - k = omega (arith, c.read.auto.buf, length-take (length xs - k) (drop k xs)) in
    record {
      within = omega (arith, kept, room, part);
      same = kept ∙ l.invariant.same;
      read = subst (λ (t : _). Consumes (g.R.Read.remaining c.args.from.now) (g.R.Read.remaining c.read.new.self) t)
          (sym (take_read k n xs ys l.invariant.within room))
          (read_more _ (g.R.Read.remaining l.from) _ _ _ l.invariant.read c.in-Ok.ensures.bytes.0);
    }
