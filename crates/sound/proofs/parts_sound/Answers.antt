-- The test is the definition, line by line: the answers of the tests of the parts are put in their places.
-- Assumes nothing.
use mathlib.Core.Path.{◌≡◌}
use mathlib.Core.Bool.{Bool, ◌&&◌, ◌||◌}
use lib.Dec.{eqb}
use Rattle.card.specs.Slots.{is_zero}
use Rattle.sound.proofs.parts_sound.Goals as goal

-- the answers of the tests of the parts in their places
joined : {a b d e f a' b' d' e' f' : Bool} (p q : Bool) → a ≡ a' → b ≡ b' → d ≡ d' → e ≡ e' → f ≡ f'
    → (a && b && d && e && f && p && q) ≡ (a' && b' && d' && e' && f' && p && q)
joined p q g h i j k = rw (g, h, i, j, k)

pub returns : goal.returns
returns c = joined (is_zero c.args.card.pairing.pending || is_zero c.args.card.channel.stage)
    (is_zero c.args.card.pins.verified || eqb c.args.card.channel.stage 2)
    c.pins_sound-a.ensures c.pairing_sound-b.ensures c.keys_sound-c.ensures
    c.channel_sound-d.ensures c.tap_sound-e.ensures
