-- A card and a session as bytes, in the order of docs/LAYOUT.md: each field after the one before it, with no tag and no length.
-- A value of the code's type has as many bytes as `specs/Sizes.antt` of crate `card` says of its part.
use Rattle.std.specs.Prelude.{ℕ, List, [], ◌∷◌, ◌++◌}
use Rattle.card.specs.declared.Identity.{Identity}
use Rattle.card.specs.declared.Pins.{Pins}
use Rattle.card.specs.declared.Pairing.{Pairing}
use Rattle.card.specs.declared.Path.{Path}
use Rattle.card.specs.declared.Keys.{Keys}
use Rattle.card.specs.declared.Channel.{Channel}
use Rattle.card.specs.declared.Tap.{Tap}
use Rattle.card.specs.declared.Card.{Card}
use Rattle.channel_rules.specs.declared.Session.{Session}
use Rattle.record_rules.specs.Fields.{slots_bytes}

abbrev pub identity_flat : Identity → List ℕ
identity_flat i = i.uid ++ i.public_key

abbrev pub pins_flat : Pins → List ℕ
pins_flat p = p.pin ++ p.puk ++ (p.pin_tries ∷ p.puk_tries ∷ p.verified ∷ [])

abbrev pub pairing_flat : Pairing → List ℕ
pairing_flat p = p.secret ++ slots_bytes p.slots ++ (p.pending ∷ p.expected)

-- the whole room, whatever of the path is in use
abbrev pub path_flat : Path → List ℕ
path_flat p = p.len ∷ p.bytes

abbrev pub keys_flat : Keys → List ℕ
keys_flat k = (k.kind ∷ k.uid) ++ path_flat k.current ++ path_flat k.pinless

abbrev pub channel_flat : Channel → List ℕ
channel_flat c = (c.stage ∷ c.enc_key) ++ c.mac_key ++ c.iv

-- the whole room, whatever of the tap record is in use
abbrev pub tap_flat : Tap → List ℕ
tap_flat t = t.len ∷ t.bytes

unfoldable pub card_flat : Card → List ℕ
card_flat c =
    (c.initialised ∷ [])
    ++ identity_flat c.identity
    ++ pins_flat c.pins
    ++ pairing_flat c.pairing
    ++ keys_flat c.keys
    ++ channel_flat c.channel
    ++ tap_flat c.tap

unfoldable pub session_flat : Session → List ℕ
session_flat s = s.enc_key ++ s.mac_key ++ s.iv
