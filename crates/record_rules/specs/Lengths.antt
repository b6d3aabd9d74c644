-- How long the stored record is, in bytes (RULES 10.2): each group of fields as the sum of its fields, and the record as the sum of its groups.
use Rattle.std.specs.Prelude.{ℕ, ◌+◌, ◌*◌}
use Rattle.card.specs.Sizes.{uid_bytes, public_key_bytes, pin_bytes, puk_bytes, key_bytes, path_most_bytes, tap_most_bytes, slot_bytes, slot_count}

-- a field's head, a tag of one byte and a length of two; and the field whose content has n bytes
abbrev pub head_bytes : ℕ
head_bytes = 1 + 2

abbrev pub record_field_bytes : ℕ → ℕ
record_field_bytes n = head_bytes + n

-- ---- the groups, in the table's order
abbrev pub identity_fields_bytes : ℕ
identity_fields_bytes = record_field_bytes 1 + record_field_bytes uid_bytes + record_field_bytes public_key_bytes

abbrev pub secret_fields_bytes : ℕ
secret_fields_bytes =
    record_field_bytes pin_bytes + record_field_bytes puk_bytes + record_field_bytes key_bytes + record_field_bytes (1 + 1) + record_field_bytes (slot_bytes * slot_count)

-- without a key and with empty paths, and with all of them as long as they can be
abbrev pub key_fields_least : ℕ
key_fields_least = record_field_bytes 1 + record_field_bytes 0 + record_field_bytes 0 + record_field_bytes 0

abbrev pub key_fields_most : ℕ
key_fields_most = record_field_bytes 1 + record_field_bytes key_bytes + record_field_bytes path_most_bytes + record_field_bytes path_most_bytes

-- ---- the record: before INIT, and the least and the greatest after it, without a tap record and with the longest
abbrev pub record_fresh : ℕ
record_fresh = identity_fields_bytes

abbrev pub record_least : ℕ
record_least = identity_fields_bytes + secret_fields_bytes + key_fields_least + record_field_bytes 0

abbrev pub record_most : ℕ
record_most = identity_fields_bytes + secret_fields_bytes + key_fields_most + record_field_bytes tap_most_bytes

-- ---- the room that WRITE asks of a buffer (RULES 3.2): enough for any record
abbrev pub write_room : ℕ
write_room = record_most
