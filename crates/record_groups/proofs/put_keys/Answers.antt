-- Four fields in a row, by `put_then`.
-- Assumes nothing.
use native.Mathlib.Omega.{arith}
use Rattle.record_fields.proofs.Chain.{put_then}
use Rattle.record_groups.proofs.put_keys.Goals as goal

pub returns : goal.returns
returns c = (put_then (put_then (put_then c.put_field-a.ensures.0 c.put_key_uid-b.ensures.0 (omega arith)) c.put_path-c.ensures.0 (omega arith)) c.put_path.ensures.0 (omega arith), omega arith)
