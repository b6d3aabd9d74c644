-- The stored record (RULES 10.1): its fields, with tag, order and content, as one table, and the bytes that they make.
-- Every length is in bytes.
use Rattle.std.specs.Prelude.{ℕ, ◌/◌, ◌%◌, true, cond, List, [], ◌∷◌, ◌++◌, length, take}
use Rattle.card.specs.declared.Identity.{Identity}
use Rattle.card.specs.declared.Pins.{Pins}
use Rattle.card.specs.declared.Slot.{Slot}
use Rattle.card.specs.declared.Pairing.{Pairing}
use Rattle.card.specs.declared.Keys.{Keys}
use Rattle.card.specs.declared.Tap.{Tap}
use Rattle.card.specs.declared.Card.{Card}
use Rattle.card.specs.State.{key_uid, path_bytes, tap_bytes}
use Rattle.card.specs.Sizes.{slot_count}
use Rattle.card.specs.Slots.{is_zero}
use Rattle.record_rules.specs.declared.Form.{Form}

-- ---- a field: its tag and its content
pub record Field : Type 0 where
  pub tag : ℕ
  pub content : List ℕ

abbrev pub record_field : ℕ → List ℕ → Field
record_field t x = record { tag = t; content = x }

-- a field's bytes: the tag, the content's length in two bytes, the high byte first, and the content
abbrev pub encode : ℕ → List ℕ → List ℕ
encode t x = t ∷ length x / 256 ∷ length x % 256 ∷ x

unfoldable pub encode_all : List Field → List ℕ
encode_all [] = []
encode_all (f ∷ more) = encode f.tag f.content ++ encode_all more

-- ---- the contents that are not a field of the card as it is
-- the slots, each its flag and its key
unfoldable pub slots_bytes : List Slot → List ℕ
slots_bytes [] = []
slots_bytes (s ∷ more) = (s.filled ∷ s.key) ++ slots_bytes more

-- ---- the table: the fields in the order of RULES 10.1
abbrev pub identity_fields : ℕ → Identity → List Field
identity_fields initialised i =
    record_field 0x10 (initialised ∷ [])
    ∷ record_field 0x11 i.uid
    ∷ record_field 0x12 i.public_key
    ∷ []

-- the tag of the slots, and the secrets with the first n slots
abbrev pub slots_tag : ℕ
slots_tag = 0x24

abbrev pub secret_fields : ℕ → Pins → Pairing → List Field
secret_fields n p q =
    record_field 0x20 p.pin
    ∷ record_field 0x21 p.puk
    ∷ record_field 0x22 q.secret
    ∷ record_field 0x23 (p.pin_tries ∷ p.puk_tries ∷ [])
    ∷ record_field slots_tag (slots_bytes (take n q.slots))
    ∷ []

abbrev pub key_fields : Keys → List Field
key_fields k =
    record_field 0x30 (k.kind ∷ [])
    ∷ record_field 0x31 (key_uid k)
    ∷ record_field 0x32 (path_bytes k.current)
    ∷ record_field 0x33 (path_bytes k.pinless)
    ∷ []

-- the tap record, of no bytes where there is none
abbrev pub tap_tag : ℕ
tap_tag = 0x34

abbrev pub tap_fields : Tap → List Field
tap_fields t = record_field tap_tag (tap_bytes t) ∷ []

-- only the record of an initialised card has the fields past the identity; its form says how many slots are in field 24, and whether field 34
-- is there
abbrev pub owner_fields : Form → Card → List Field
owner_fields f c =
    secret_fields f.slots c.pins c.pairing ++ (key_fields c.keys ++ cond f.tapped (tap_fields c.tap) [])

unfoldable pub fields_in : Form → Card → List Field
fields_in f c =
    identity_fields c.initialised c.identity ++ cond (is_zero c.initialised) [] (owner_fields f c)

-- the form that WRITE writes: all the slots, and field 34
abbrev pub written_form : Form
written_form = record { slots = slot_count; tapped = true }

-- the record of a card
unfoldable pub record_of : Card → List ℕ
record_of c = encode_all (fields_in written_form c)
