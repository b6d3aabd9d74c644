-- The templates that commands answer (RULES 9.5), from the values that they hold.
-- Every length is a number of bytes.
use Rattle.std.specs.Prelude.{Bool, true, false, List, [], ◌∷◌, ◌++◌, ℕ, ◌+◌}
use Rattle.template_rules.specs.Template.{field, field_bytes}
use Rattle.template_rules.specs.Der.{der_integer}
use Rattle.card.specs.State.{version}

-- SELECT before INIT (RULES 6.4, 9.5): 80 public key
abbrev pub pre_initialised : List ℕ → List ℕ
pre_initialised key = field 0x80 key

-- SELECT after INIT (RULES 6.4, 9.5): A4 holding 8F UID, 80 public key, 02 the card's version, 02 free slots, 8E key UID or empty
abbrev pub application_fields : List ℕ → List ℕ → ℕ → List ℕ → List ℕ
application_fields uid key free key_uid =
    field 0x8F uid ++ field 0x80 key ++ field 0x02 version ++ field 0x02 (free ∷ []) ++ field 0x8E key_uid

-- how many bytes those fields take, from the lengths of those that vary
abbrev pub application_bytes : ℕ → ℕ → ℕ → ℕ
application_bytes uid key key_uid = field_bytes uid + field_bytes key + field_bytes 2 + field_bytes 1 + field_bytes key_uid

abbrev pub application_info : List ℕ → List ℕ → ℕ → List ℕ → List ℕ
application_info uid key free key_uid = field 0xA4 (application_fields uid key free key_uid)

-- FF where there is a key, else 00
abbrev pub key_byte : Bool → ℕ
key_byte true = 0xFF
key_byte false = 0x00

-- GET STATUS with P1 00 (RULES 6.10, 9.5): A3 holding 02 PIN tries, 02 PUK tries, 01 key
abbrev pub status : ℕ → ℕ → Bool → List ℕ
status pin puk key = field 0xA3 (field 0x02 (pin ∷ []) ++ field 0x02 (puk ∷ []) ++ field 0x01 (key_byte key ∷ []))

-- SIGN (RULES 6.18, 9.5): A0 holding 80 public key and 30 with r and s
abbrev pub pair : List ℕ → List ℕ → List ℕ
pair r s = der_integer r ++ der_integer s

abbrev pub signature : List ℕ → List ℕ → List ℕ → List ℕ
signature key r s = field 0xA0 (field 0x80 key ++ field 0x30 (pair r s))

-- EXPORT (RULES 6.19, 9.5): A1 holding 80 public key, or with it 81 private key
abbrev pub exported_public : List ℕ → List ℕ
exported_public key = field 0xA1 (field 0x80 key)

abbrev pub exported_pair : List ℕ → List ℕ → List ℕ
exported_pair key private = field 0xA1 (field 0x80 key ++ field 0x81 private)
