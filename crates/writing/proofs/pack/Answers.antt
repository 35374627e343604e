-- `writing::pack` meets its contract: the values of each kind, packed. Assumes nothing.
use Rattle.std.proofs.Common.{refl}
use Rattle.message.specs.declared.Message.TheVariants as m
use Rattle.writing.proofs.PackLaws.{packs}
use Rattle.writing.proofs.pack.Goals as goal

pub returns-in-Blank : goal.returns-in-Blank
returns-in-Blank c = rw c.in-Blank.is (packs m.Blank _ refl c.pack_as.ensures)

pub returns-in-S0 : goal.returns-in-S0
returns-in-S0 c = rw c.in-S0.is (packs m.S0 _ refl c.pack_as-in-S0.ensures)

pub returns-in-S3 : goal.returns-in-S3
returns-in-S3 c = rw c.in-S3.is (packs (m.S3 c.in-S3.i) _ c.write_iff.ensures c.pack_as-in-S3.ensures)

pub returns-in-S4 : goal.returns-in-S4
returns-in-S4 c = rw c.in-S4.is (packs (m.S4 c.in-S4.t) _ c.write_track.ensures c.pack_as-in-S4.ensures)

pub returns-in-S4Plus : goal.returns-in-S4Plus
returns-in-S4Plus c = rw c.in-S4Plus.is (packs (m.S4Plus c.in-S4Plus.t) _ c.write_track-in-S4Plus.ensures c.pack_as-in-S4Plus.ensures)

pub returns-in-S5 : goal.returns-in-S5
returns-in-S5 c = rw c.in-S5.is (packs (m.S5 c.in-S5.a) _ c.write_amplifying.ensures c.pack_as-in-S5.ensures)

pub returns-in-S6 : goal.returns-in-S6
returns-in-S6 c = rw c.in-S6.is (packs (m.S6 c.in-S6.s) _ c.write_strobe.ensures c.pack_as-in-S6.ensures)

pub returns-in-S8 : goal.returns-in-S8
returns-in-S8 c = rw c.in-S8.is (packs (m.S8 c.in-S8.t) _ c.write_track-in-S8.ensures c.pack_as-in-S8.ensures)

pub returns-in-S8Plus : goal.returns-in-S8Plus
returns-in-S8Plus c = rw c.in-S8Plus.is (packs (m.S8Plus c.in-S8Plus.t) _ c.write_track-in-S8Plus.ensures c.pack_as-in-S8Plus.ensures)

pub returns-in-S9 : goal.returns-in-S9
returns-in-S9 c = rw c.in-S9.is (packs (m.S9 c.in-S9.c) _ c.write_corner.ensures c.pack_as-in-S9.ensures)
