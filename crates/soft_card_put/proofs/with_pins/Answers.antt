-- Two fields and three bytes, each written after what is before it.
-- Assumes nothing.
use Rattle.std.proofs.Common.{rules}
use mathlib.Core.Path.{refl}
use mathlib.Core.List.{[], ◌∷◌}
use lib.ListN.{take}
use Rattle.card.specs.Sizes.{pin_bytes, puk_bytes}
use Rattle.soft_card_bytes.specs.Offsets.{pins_offset, puk_offset, pin_tries_offset}
use Rattle.soft_card_bytes.proofs.Grown.{join}
use Rattle.soft_card_put.proofs.Wrote.{wrote-bytes}
use Rattle.soft_card_put.proofs.with_pins.Goals as goal

pub returns : goal.returns
returns c = let g = c.args in
    join (take pins_offset g.s) _ _
    (join (take pins_offset g.s) _ _
    (wrote-bytes g.s pins_offset pin_bytes g.x.pin (search rules) (search rules) c.put.ensures)
    (wrote-bytes c.put.new.buf puk_offset puk_bytes g.x.puk (search rules) (search rules) c.put-2.ensures))
    (wrote-bytes c.put-2.new.buf pin_tries_offset 3 (g.x.pin_tries ∷ g.x.puk_tries ∷ g.x.verified ∷ []) refl (search rules) c.put-3.ensures)
