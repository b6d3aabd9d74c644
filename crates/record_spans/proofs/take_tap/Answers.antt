-- The tap record is a room and how much of it is in use.
-- Assumes nothing.

use Rattle.record_spans.proofs.take_tap.Goals as goal

pub returns : goal.returns
returns c = let t = c.take_used-read.ensures in rw (t.0.bytes, t.0.used)
