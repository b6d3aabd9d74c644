-- Where each part and each field of a card's bytes begins, in bytes from their start (docs/LAYOUT.md): a part after the part before it, a
-- field after the field before it. A session likewise.
use Rattle.std.specs.Prelude.{ℕ, ◌+◌, ◌*◌}
use Rattle.card.specs.Sizes.{uid_bytes, pin_bytes, puk_bytes, key_bytes, slot_bytes, slot_count, whole_path_bytes, identity_bytes, pins_bytes, pairing_bytes, keys_bytes, channel_bytes}

-- ---- the parts, after the flag of INIT
abbrev pub identity_offset : ℕ
identity_offset = 1

abbrev pub pins_offset : ℕ
pins_offset = identity_offset + identity_bytes

abbrev pub pairing_offset : ℕ
pairing_offset = pins_offset + pins_bytes

abbrev pub keys_offset : ℕ
keys_offset = pairing_offset + pairing_bytes

abbrev pub channel_offset : ℕ
channel_offset = keys_offset + keys_bytes

abbrev pub tap_offset : ℕ
tap_offset = channel_offset + channel_bytes

-- ---- the fields after the first of their part
abbrev pub public_key_offset : ℕ
public_key_offset = identity_offset + uid_bytes

abbrev pub puk_offset : ℕ
puk_offset = pins_offset + pin_bytes

abbrev pub pin_tries_offset : ℕ
pin_tries_offset = puk_offset + puk_bytes

abbrev pub puk_tries_offset : ℕ
puk_tries_offset = pin_tries_offset + 1

abbrev pub verified_offset : ℕ
verified_offset = puk_tries_offset + 1

abbrev pub slots_offset : ℕ
slots_offset = pairing_offset + key_bytes

abbrev pub pending_offset : ℕ
pending_offset = slots_offset + slot_bytes * slot_count

abbrev pub expected_offset : ℕ
expected_offset = pending_offset + 1

abbrev pub key_uid_offset : ℕ
key_uid_offset = keys_offset + 1

abbrev pub current_offset : ℕ
current_offset = key_uid_offset + key_bytes

abbrev pub pinless_offset : ℕ
pinless_offset = current_offset + whole_path_bytes

abbrev pub enc_key_offset : ℕ
enc_key_offset = channel_offset + 1

abbrev pub mac_key_offset : ℕ
mac_key_offset = enc_key_offset + key_bytes

abbrev pub iv_offset : ℕ
iv_offset = mac_key_offset + key_bytes

abbrev pub tap_room_offset : ℕ
tap_room_offset = tap_offset + 1

-- ---- the fields of a session
abbrev pub session_mac_key_offset : ℕ
session_mac_key_offset = key_bytes

abbrev pub session_iv_offset : ℕ
session_iv_offset = session_mac_key_offset + key_bytes
