-- WRITE: by cases on soundness and room, each from `WroteFacts`.
-- Assumes nothing.
use mathlib.Core.Path.{sym, ◌∙◌}
use native.Mathlib.Omega.{arith}
use Rattle.card.proofs.SoundFacts.{path-lengths, tap-length}
use Rattle.record_write.proofs.WroteFacts.{wrote-unsound, wrote-small, wrote-record}
use Rattle.record_write.proofs.write.Goals as goal

pub returns-then-not-sound : goal.returns-then-not-sound
returns-then-not-sound c = wrote-unsound c.args.card c.args.buf.now (sym c.sound.ensures ∙ c.if-not-sound.true)

pub returns-then-buf-lt-WRITE_ROOM_BYTES : goal.returns-then-buf-lt-WRITE_ROOM_BYTES
returns-then-buf-lt-WRITE_ROOM_BYTES c = wrote-small c.args.card c.args.buf.now (sym c.sound.ensures ∙ c.if-not-sound.false) c.if-buf-lt-WRITE_ROOM_BYTES.true

pub put_record-count-requires : goal.put_record-count-requires
put_record-count-requires c = let l = path-lengths c.args.card (sym c.sound.ensures ∙ c.if-not-sound.false) in (l.0, (l.1, (tap-length c.args.card (sym c.sound.ensures ∙ c.if-not-sound.false), omega arith)))

pub returns : goal.returns
returns c = wrote-record c.args.card c.args.buf.now c.put_record-count.new.buf c.put_record-count.result (sym c.sound.ensures ∙ c.if-not-sound.false) c.if-buf-lt-WRITE_ROOM_BYTES.false c.put_record-count.ensures.0
