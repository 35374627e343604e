-- `reading::read_message` meets its contract. Assumes nothing.
use Rattle.reading.proofs.read_message.Goals as goal

pub returns-in-S3 : goal.returns-in-S3
returns-in-S3 c = rw (c.in-S3.is, c.read_iff.ensures)

pub returns-in-S4 : goal.returns-in-S4
returns-in-S4 c = rw (c.in-S4.is, c.read_track.ensures)

pub returns-in-S4Plus : goal.returns-in-S4Plus
returns-in-S4Plus c = rw (c.in-S4Plus.is, c.read_track-in-S4Plus.ensures)

pub returns-in-S5 : goal.returns-in-S5
returns-in-S5 c = rw (c.in-S5.is, c.read_amplifying.ensures)

pub returns-in-S6 : goal.returns-in-S6
returns-in-S6 c = rw (c.in-S6.is, c.read_strobe.ensures)

pub returns-in-S8 : goal.returns-in-S8
returns-in-S8 c = rw (c.in-S8.is, c.read_track-in-S8.ensures)

pub returns-in-S8Plus : goal.returns-in-S8Plus
returns-in-S8Plus c = rw (c.in-S8Plus.is, c.read_track-in-S8Plus.ensures)

pub returns-in-S9 : goal.returns-in-S9
returns-in-S9 c = rw (c.in-S9.is, c.read_corner.ensures)
