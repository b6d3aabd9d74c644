-- How many bytes each field of a card has, how many slots there are, and the size of each part as the sum of its fields' sizes (RULES 2.1).
-- Every length of a card that another definition or a law names is one of these.
use Rattle.std.specs.Prelude.{ℕ, ◌+◌, ◌*◌}

-- ---- the fields that are arrays, in bytes; every other field is one byte
abbrev pub uid_bytes : ℕ
uid_bytes = 16

abbrev pub public_key_bytes : ℕ
public_key_bytes = 65

abbrev pub pin_bytes : ℕ
pin_bytes = 6

abbrev pub puk_bytes : ℕ
puk_bytes = 12

-- a key, and also a pairing secret, a cryptogram and a key UID
abbrev pub key_bytes : ℕ
key_bytes = 32

abbrev pub iv_bytes : ℕ
iv_bytes = 16

-- the room of a path
abbrev pub path_most_bytes : ℕ
path_most_bytes = 40

-- the room of the tap record
abbrev pub tap_most_bytes : ℕ
tap_most_bytes = 223

-- ---- the number of pairing slots (RULES 2.2)
abbrev pub slot_count : ℕ
slot_count = 8

-- ---- the parts, in bytes (RULES 2.1)
abbrev pub identity_bytes : ℕ
identity_bytes = uid_bytes + public_key_bytes

-- PIN and PUK, the tries left for each, and whether the PIN is verified
abbrev pub pins_bytes : ℕ
pins_bytes = pin_bytes + puk_bytes + 1 + 1 + 1

-- a slot: its flag and its key
abbrev pub slot_bytes : ℕ
slot_bytes = 1 + key_bytes

-- the secret, the slots, the flag of a pending pairing and the cryptogram expected
abbrev pub pairing_bytes : ℕ
pairing_bytes = key_bytes + slot_bytes * slot_count + 1 + key_bytes

-- a path as a card holds it: how much of its room is in use, and the room
abbrev pub whole_path_bytes : ℕ
whole_path_bytes = 1 + path_most_bytes

-- the kind of key, its UID and both paths
abbrev pub keys_bytes : ℕ
keys_bytes = 1 + key_bytes + whole_path_bytes + whole_path_bytes

-- both keys of a session and its IV
abbrev pub session_bytes : ℕ
session_bytes = key_bytes + key_bytes + iv_bytes

-- the stage and the session
abbrev pub channel_bytes : ℕ
channel_bytes = 1 + session_bytes

-- the tap record as a card holds it: how much of its room is in use, and the room
abbrev pub whole_tap_bytes : ℕ
whole_tap_bytes = 1 + tap_most_bytes

-- ---- the whole card (RULES 2.1): the flag of INIT and the six parts
abbrev pub card_bytes : ℕ
card_bytes = 1 + identity_bytes + pins_bytes + pairing_bytes + keys_bytes + channel_bytes + whole_tap_bytes
