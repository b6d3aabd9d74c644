-- The first byte, and the six parts after it.
-- Assumes nothing.
use mathlib.Core.Path.{sym, refl}
use mathlib.Core.List.{[], ◌∷◌}
use Rattle.soft_card_bytes.proofs.Grown.{join}
use Rattle.soft_card_bytes.specs.Flat.{card_flat}
use Rattle.soft_card_put.proofs.record_of.Goals as goal

pub returns : goal.returns
unfolding card_flat
returns c = sym (join [] _ _
    (join [] _ _
    (join [] _ _
    (join [] _ _
    (join [] _ _
    (join [] (c.args.card.initialised ∷ []) _ refl c.with_identity-b.ensures)
    c.with_pins-c.ensures)
    c.with_pairing-d.ensures)
    c.with_keys-e.ensures)
    c.with_channel-f.ensures)
    c.with_tap.ensures)
