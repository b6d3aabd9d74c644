-- The report's fields. Invariant: what is written is the fields of the numbers passed.
-- Assumes nothing.
use Rattle.stock_report.proofs.put_report.Given as goal
use mathlib.Core.Path.{◌≡◌}
use Prim.Native.Nat.{◌+◌, ◌*◌, ◌≤◌}
use lib.ListN.{length, take}
use Rattle.record_rules.specs.Lengths.{record_field_bytes}
use Rattle.record_fields.specs.Put.{Put}
use Rattle.stock_rules.specs.Counts.{number_count}
use Rattle.stock_rules.specs.Report.{number_bytes, first_tag, report_fields, report_room}

abbrev pub invariant-loop-n : goal.invariant-loop-n
invariant-loop-n l = (length l.n-items ≡ number_count) × (length l.buf ≡ length l.initial.buf) × (report_room ≤ length l.initial.buf)
    × (l.at ≡ record_field_bytes number_bytes * l.n-index) × (l.tag ≡ first_tag + l.n-index) × Put (report_fields (take l.n-index l.n-items)) 0 l.initial.buf l.at l.buf
