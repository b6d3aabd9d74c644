-- The report into a buffer: by cases on soundness and room, each from `ReportedFacts`.
-- Assumes nothing.
use mathlib.Core.Path.{sym, ◌∙◌}
use Rattle.stock_report.proofs.ReportedFacts.{reported-unsound, reported-small, reported-whole}
use Rattle.stock_report.proofs.report.Goals as goal

pub returns-then-not-sound : goal.returns-then-not-sound
returns-then-not-sound c = let a = c.args in
    reported-unsound a.c a.buf.now (sym c.sound.ensures ∙ c.if-not-sound.true)

pub returns-then-buf-lt-REPORT_ROOM_BYTES : goal.returns-then-buf-lt-REPORT_ROOM_BYTES
returns-then-buf-lt-REPORT_ROOM_BYTES c = let a = c.args in
    reported-small a.c a.buf.now (sym c.sound.ensures ∙ c.if-not-sound.false) c.if-buf-lt-REPORT_ROOM_BYTES.true

pub returns : goal.returns
returns c = let a = c.args in
    reported-whole a.c a.buf.now c.put_report-count.new.buf c.put_report-count.result (sym c.sound.ensures ∙ c.if-not-sound.false) c.if-buf-lt-REPORT_ROOM_BYTES.false c.put_report-count.ensures
