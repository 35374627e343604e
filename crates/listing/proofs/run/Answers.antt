-- `listing::run` meets its contract: what was read is the whole, or is too long as the whole is. Assumes nothing.
use Rattle.std.proofs.Common.{ℕ, ◌≡◌, List, length, take, arith}
use Rattle.std.proofs.lemmas.Result.{on_ok_weaker}
use Rattle.text.proofs.WroteLaws.{put_first}
use Rattle.text.proofs.ReadLaws.{read_enough, written_enough}
use Rattle.listing.specs.Listing.{listing_of}
use Rattle.listing.proofs.ListingLaws.{longer_listed}
use Rattle.listing.proofs.run.Goals as goal

pub returns-clause-whole : goal.returns-clause-whole
returns-clause-whole g c =
    let got = c.in_ok-count.ensures in
    let space = c.read_all.new.space in
    let n = c.in_ok-count.count in
    let known = g.R.Read.remaining c.args.from.now in
    let most : length space ≡ 65537 = omega arith in
    let longer = λ (xs ys : List ℕ) (e : length xs ≡ length space). longer_listed xs ys (omega (arith, e, most)) in
    let enough = read_enough listing_of known _ space n got.prefix_len.0 got.read got.whole longer in
    on_ok_weaker _ (written_enough listing_of known _ _ (take n space) _ enough (put_first c.list_log-k.ensures.wrote)) c.write.ensures.whole
