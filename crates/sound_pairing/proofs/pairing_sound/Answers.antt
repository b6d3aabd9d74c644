-- The test is the definition, line by line: the answers of the tests that it calls are put in their places.
-- Assumes nothing.
use mathlib.Core.Path.{◌≡◌}
use mathlib.Core.Bool.{Bool, ◌&&◌, ◌||◌, not}
use Rattle.card.specs.Slots.{is_zero}
use Rattle.card.specs.Sound.{is_flag}
use Rattle.sound_pairing.proofs.pairing_sound.Goals as goal

-- the answers of the tests in their places
joined : {a b d a' b' d' : Bool} (p q r : Bool) → a ≡ a' → b ≡ b' → d ≡ d'
    → (a && p && (q || b) && (r || d)) ≡ (a' && p && (q || b') && (r || d'))
joined p q r g h i = rw (g, h, i)

pub returns : goal.returns
returns c = joined (is_flag c.args.p.pending) (is_zero c.args.p.pending) (not (is_zero c.args.p.pending)) c.slots_within-within.ensures c.has_free-room.ensures c.zero_from-clear.ensures
