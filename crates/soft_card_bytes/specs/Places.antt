-- The card of a card's bytes and the session of a session's: each field by its offset and size, in bytes (docs/LAYOUT.md).
use Rattle.std.specs.Prelude.{ℕ, ◌+◌, ◌*◌, List, drop, get_or}
use Rattle.card.specs.declared.Identity.{Identity}
use Rattle.card.specs.declared.Pins.{Pins}
use Rattle.card.specs.declared.Pairing.{Pairing}
use Rattle.card.specs.declared.Path.{Path}
use Rattle.card.specs.declared.Keys.{Keys}
use Rattle.card.specs.declared.Channel.{Channel}
use Rattle.card.specs.declared.Tap.{Tap}
use Rattle.card.specs.declared.Card.{Card}
use Rattle.card.specs.Sizes.{uid_bytes, public_key_bytes, pin_bytes, puk_bytes, key_bytes, iv_bytes, path_most_bytes, tap_most_bytes, slot_bytes, slot_count}
use Rattle.channel_rules.specs.declared.Session.{Session}
use Rattle.record_rules.specs.Parse.{fit, slots_from}
use Rattle.soft_card_bytes.specs.Offsets.{identity_offset, pins_offset, pairing_offset, keys_offset, channel_offset, tap_offset, public_key_offset, puk_offset, pin_tries_offset, puk_tries_offset, verified_offset, slots_offset, pending_offset, expected_offset, key_uid_offset, current_offset, pinless_offset, enc_key_offset, mac_key_offset, iv_offset, tap_room_offset, session_mac_key_offset, session_iv_offset}

-- the byte at an offset, and n bytes from there on; where the list has ended there are zeros
abbrev pub byte_at : ℕ → List ℕ → ℕ
byte_at at s = get_or s at 0

abbrev pub bytes_at : ℕ → ℕ → List ℕ → List ℕ
bytes_at at n s = fit n (drop at s)

abbrev pub identity_at : List ℕ → Identity
identity_at s = record { uid = bytes_at identity_offset uid_bytes s; public_key = bytes_at public_key_offset public_key_bytes s }

abbrev pub pins_at : List ℕ → Pins
pins_at s = record {
  pin = bytes_at pins_offset pin_bytes s;
  puk = bytes_at puk_offset puk_bytes s;
  pin_tries = byte_at pin_tries_offset s;
  puk_tries = byte_at puk_tries_offset s;
  verified = byte_at verified_offset s;
}

abbrev pub pairing_at : List ℕ → Pairing
pairing_at s = record {
  secret = bytes_at pairing_offset key_bytes s;
  slots = slots_from slot_count (bytes_at slots_offset (slot_bytes * slot_count) s);
  pending = byte_at pending_offset s;
  expected = bytes_at expected_offset key_bytes s;
}

-- the path at an offset: how many bytes of it are in use, and its room
abbrev pub path_at : ℕ → List ℕ → Path
path_at at s = record { len = byte_at at s; bytes = bytes_at (at + 1) path_most_bytes s }

abbrev pub keys_at : List ℕ → Keys
keys_at s = record { kind = byte_at keys_offset s; uid = bytes_at key_uid_offset key_bytes s; current = path_at current_offset s; pinless = path_at pinless_offset s }

abbrev pub channel_at : List ℕ → Channel
channel_at s = record {
  stage = byte_at channel_offset s;
  enc_key = bytes_at enc_key_offset key_bytes s;
  mac_key = bytes_at mac_key_offset key_bytes s;
  iv = bytes_at iv_offset iv_bytes s;
}

abbrev pub tap_at : List ℕ → Tap
tap_at s = record { len = byte_at tap_offset s; bytes = bytes_at tap_room_offset tap_most_bytes s }

unfoldable pub card_at : List ℕ → Card
card_at s = record {
  initialised = byte_at 0 s;
  identity = identity_at s;
  pins = pins_at s;
  pairing = pairing_at s;
  keys = keys_at s;
  channel = channel_at s;
  tap = tap_at s;
}

unfoldable pub session_at : List ℕ → Session
session_at s = record { enc_key = bytes_at 0 key_bytes s; mac_key = bytes_at session_mac_key_offset key_bytes s; iv = bytes_at session_iv_offset iv_bytes s }
