-- The bytes of the fresh card.
-- Assumes nothing.
use mathlib.Core.Path.{ap, ◌∙◌}
use Rattle.soft_card_bytes.specs.Flat.{card_flat}
use Rattle.soft_byte_calls.proofs.fresh.Goals as goal

pub returns : goal.returns
returns c = c.record_of.ensures ∙ ap card_flat c.fresh-new.ensures
