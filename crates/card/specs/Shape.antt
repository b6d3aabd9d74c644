-- What the types say of a card (RULES 2.1): the number of slots, and the length in bytes of each array but the channel's three. Those are a
-- session's, and `Keyed` of crate `channel_rules` says their lengths. Every card that code holds has this shape; a theorem about all cards
-- takes it as a hypothesis.
use Rattle.std.specs.Prelude.{◌≡◌, List, [], ◌∷◌, length}
use Rattle.card.specs.declared.Slot.{Slot}
use Rattle.card.specs.declared.Card.{Card}
use Rattle.card.specs.Sizes.{uid_bytes, public_key_bytes, pin_bytes, puk_bytes, key_bytes, path_most_bytes, tap_most_bytes, slot_count}

-- each slot's key has the length of a key
abbrev pub KeysLong : List Slot → Type 0
KeysLong [] = Unit {0}
KeysLong (s ∷ more) = (length s.key ≡ key_bytes) × KeysLong more

pub record Shaped (c : Card) : Type 0 where
  pub uid : length c.identity.uid ≡ uid_bytes
  pub public_key : length c.identity.public_key ≡ public_key_bytes
  pub pin : length c.pins.pin ≡ pin_bytes
  pub puk : length c.pins.puk ≡ puk_bytes
  pub secret : length c.pairing.secret ≡ key_bytes
  pub slots : length c.pairing.slots ≡ slot_count
  pub keys : KeysLong c.pairing.slots
  pub expected : length c.pairing.expected ≡ key_bytes
  pub keyuid : length c.keys.uid ≡ key_bytes
  pub current : length c.keys.current.bytes ≡ path_most_bytes
  pub pinless : length c.keys.pinless.bytes ≡ path_most_bytes
  pub tap : length c.tap.bytes ≡ tap_most_bytes
