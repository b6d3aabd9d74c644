-- A field is its head and then its content, by `put_one`.
-- Assumes nothing.
use mathlib.Core.Path.{refl}
use Rattle.record_fields.proofs.Chain.{put_one}
use Rattle.record_fields.proofs.put_field.Goals as goal

pub returns : goal.returns
returns c = (put_one c.args.tag c.args.src.now c.args.at c.args.buf.now c.put.new.buf c.put-2.new.buf c.requires.1 c.put.ensures c.put-2.ensures, refl)
