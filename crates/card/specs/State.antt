-- The card's constants (RULES 2.2), the fresh card (RULES 3.3), and the card at power-up (RULES 3.4). Every length is in bytes.
use Rattle.std.specs.Prelude.{ℕ, ◌-◌, cond, List, [], ◌∷◌, ◌++◌, eqb, length, take, replicate}
use Rattle.card.specs.Sizes.{pin_bytes, puk_bytes, key_bytes, iv_bytes, path_most_bytes, tap_most_bytes}
pub use Rattle.card.specs.Sizes.{slot_count}
use Rattle.card.specs.declared.Pins.{Pins}
use Rattle.card.specs.declared.Slot.{Slot}
use Rattle.card.specs.declared.Pairing.{Pairing}
use Rattle.card.specs.declared.Path.{Path}
use Rattle.card.specs.declared.Keys.{Keys}
use Rattle.card.specs.declared.Channel.{Channel}
use Rattle.card.specs.declared.Tap.{Tap}
use Rattle.card.specs.declared.Card.{Card}

-- the full tries of the PIN and of the PUK (RULES 2.2)
abbrev pub most_pin_tries : ℕ
most_pin_tries = 3

abbrev pub most_puk_tries : ℕ
most_puk_tries = 5

-- the application's version, as SELECT answers it (RULES 2.2)
abbrev pub version : List ℕ
version = 2 ∷ 0 ∷ []

abbrev pub zeros : ℕ → List ℕ
zeros n = replicate n 0

-- ---- the parts of a card that holds nothing but its identity (RULES 3.3)
abbrev pub no_pins : Pins
no_pins = record { pin = zeros pin_bytes; puk = zeros puk_bytes; pin_tries = 0; puk_tries = 0; verified = 0 }

abbrev pub free_slot : Slot
free_slot = record { filled = 0; key = zeros key_bytes }

abbrev pub no_pairing : Pairing
no_pairing = record { secret = zeros key_bytes; slots = replicate slot_count free_slot; pending = 0; expected = zeros key_bytes }

abbrev pub empty_path : Path
empty_path = record { len = 0; bytes = zeros path_most_bytes }

abbrev pub no_keys : Keys
no_keys = record { kind = 0; uid = zeros key_bytes; current = empty_path; pinless = empty_path }

abbrev pub closed_of : Channel
closed_of = record { stage = 0; enc_key = zeros key_bytes; mac_key = zeros key_bytes; iv = zeros iv_bytes }

abbrev pub no_tap : Tap
no_tap = record { len = 0; bytes = zeros tap_most_bytes }

-- ---- a path as GET STATUS answers it and the record holds it (RULES 6.10)
abbrev pub path_bytes : Path → List ℕ
path_bytes p = take p.len p.bytes

-- the path of these bytes, as many as it has room for (RULES 6.15)
abbrev pub path_of : List ℕ → Path
path_of s = record { len = length s; bytes = s ++ zeros (path_most_bytes - length s) }

-- ---- the tap record, of no bytes where there is none, and the one of these bytes, as many as it has room for (RULES 6.20)
abbrev pub tap_bytes : Tap → List ℕ
tap_bytes t = take t.len t.bytes

abbrev pub tap_of : List ℕ → Tap
tap_of s = record { len = length s; bytes = s ++ zeros (tap_most_bytes - length s) }

-- the key UID with a key, else nothing (RULES 9.5)
abbrev pub key_uid : Keys → List ℕ
key_uid k = cond (eqb k.kind 0) [] k.uid

-- FRESH (RULES 3.3): the card with this UID and public key, and all else zero
abbrev pub fresh_of : List ℕ → List ℕ → Card
fresh_of uid key = record {
  initialised = 0;
  identity = record { uid = uid; public_key = key };
  pins = no_pins;
  pairing = no_pairing;
  keys = no_keys;
  channel = closed_of;
  tap = no_tap;
}

-- ---- a card with one part in the place of its own
abbrev pub with_initialised : Card → ℕ → Card
with_initialised c flag = record {
  initialised = flag;
  identity = c.identity;
  pins = c.pins;
  pairing = c.pairing;
  keys = c.keys;
  channel = c.channel;
  tap = c.tap;
}

abbrev pub with_pins : Card → Pins → Card
with_pins c p = record {
  initialised = c.initialised;
  identity = c.identity;
  pins = p;
  pairing = c.pairing;
  keys = c.keys;
  channel = c.channel;
  tap = c.tap;
}

abbrev pub with_pairing : Card → Pairing → Card
with_pairing c p = record {
  initialised = c.initialised;
  identity = c.identity;
  pins = c.pins;
  pairing = p;
  keys = c.keys;
  channel = c.channel;
  tap = c.tap;
}

abbrev pub with_keys : Card → Keys → Card
with_keys c k = record {
  initialised = c.initialised;
  identity = c.identity;
  pins = c.pins;
  pairing = c.pairing;
  keys = k;
  channel = c.channel;
  tap = c.tap;
}

abbrev pub with_channel : Card → Channel → Card
with_channel c k = record {
  initialised = c.initialised;
  identity = c.identity;
  pins = c.pins;
  pairing = c.pairing;
  keys = c.keys;
  channel = k;
  tap = c.tap;
}

abbrev pub with_tap : Card → Tap → Card
with_tap c t = record {
  initialised = c.initialised;
  identity = c.identity;
  pins = c.pins;
  pairing = c.pairing;
  keys = c.keys;
  channel = c.channel;
  tap = t;
}

-- the PIN not verified
abbrev pub unverified : Pins → Pins
unverified p = record { pin = p.pin; puk = p.puk; pin_tries = p.pin_tries; puk_tries = p.puk_tries; verified = 0 }

-- ---- the card with its channel closed (RULES 3.4): stage 0, the session's bytes zero, and verification ended with it (RULES 6.2)
abbrev pub closed : Card → Card
closed c = with_pins (with_channel c closed_of) (unverified c.pins)

-- no pending pairing, and its bytes zero
abbrev pub not_pending : Pairing → Pairing
not_pending p = record { secret = p.secret; slots = p.slots; pending = 0; expected = zeros key_bytes }

abbrev pub forgotten : Card → Card
forgotten c = with_pairing c (not_pending c.pairing)

-- ---- power-up (RULES 3.4): the channel closed and verification with it, no pending pairing
abbrev pub reset_of : Card → Card
reset_of c = forgotten (closed c)

-- PIN and PUK put in the place of the card's own
abbrev pub with_secrets : List ℕ → List ℕ → Card → Card
with_secrets pin puk c = with_pins c (record {
  pin = pin;
  puk = puk;
  pin_tries = c.pins.pin_tries;
  puk_tries = c.pins.puk_tries;
  verified = c.pins.verified;
})
