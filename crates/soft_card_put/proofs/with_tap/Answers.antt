-- The length in use, and the bytes after it, which end the record.
-- Assumes nothing.
use Rattle.std.proofs.Common.{rules}
use mathlib.Core.Path.{◌∙◌}
use native.Mathlib.Omega.{arith}
use lib.ListN.{length-set}
use lib.Seq.{take_all}
use Rattle.card.specs.Sizes.{tap_most_bytes, card_bytes}
use Rattle.soft_card_bytes.specs.Offsets.{tap_offset}
use Rattle.soft_card_put.proofs.Wrote.{wrote-room}
use Rattle.soft_card_put.proofs.with_tap.Goals as goal

pub returns : goal.returns
returns c = let g = c.args in
    wrote-room g.s tap_offset g.x.len tap_most_bytes g.x.bytes (search rules) (omega (arith, length-set g.s tap_offset g.x.len)) c.put.ensures
    ∙ take_all card_bytes c.put.new.buf (search rules)
