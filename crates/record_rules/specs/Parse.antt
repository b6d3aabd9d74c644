-- The card that bytes describe, if they are a record (RULES 10.4): the fields taken one after the other, whatever their tags, each content
-- cut or filled with zeros to the length that the card has for it. Every length is in bytes.
use Rattle.std.specs.Prelude.{ℕ, zero, suc, ◌+◌, ◌-◌, ◌*◌, min, List, [], ◌∷◌, length, take, drop, get_or}
use Rattle.octets.specs.Bytes.{tabulate}
use Rattle.card.specs.declared.Identity.{Identity}
use Rattle.card.specs.declared.Pins.{Pins}
use Rattle.card.specs.declared.Slot.{Slot}
use Rattle.card.specs.declared.Pairing.{Pairing}
use Rattle.card.specs.declared.Path.{Path}
use Rattle.card.specs.declared.Keys.{Keys}
use Rattle.card.specs.declared.Tap.{Tap}
use Rattle.card.specs.declared.Card.{Card}
use Rattle.card.specs.Sizes.{uid_bytes, public_key_bytes, pin_bytes, puk_bytes, key_bytes, path_most_bytes, tap_most_bytes, slot_bytes, slot_count}
use Rattle.card.specs.State.{zeros, closed_of}
use Rattle.record_rules.specs.Lengths.{head_bytes}

-- ---- fields of a list of bytes
-- the length that the first field's head gives, its content, and what follows it
abbrev pub head_length : List ℕ → ℕ
head_length s = get_or s 1 0 * 256 + get_or s 2 0

unfoldable pub body : List ℕ → List ℕ
body s = take (head_length s) (drop head_bytes s)

unfoldable pub rest : List ℕ → List ℕ
rest s = drop (head_length s) (drop head_bytes s)

-- what follows the first k fields, and the content of the field number k, counted from 0
abbrev pub behind : ℕ → List ℕ → List ℕ
behind zero s = s
behind (suc k) s = rest (behind k s)

abbrev pub content : List ℕ → ℕ → List ℕ
content s k = body (behind k s)

-- where the content of the field number k begins, in bytes from the start of s
abbrev pub content_start : List ℕ → ℕ → ℕ
content_start s k = length s - length (behind k s) + head_bytes

-- the first k fields themselves
abbrev pub before : ℕ → List ℕ → List ℕ
before k s = take (length s - length (behind k s)) s

-- the numbers of fields 24 and 34, counted from 0: three fields of the identity, five of the secrets, of which 24 is the last, and four of the
-- keys come before field 34
abbrev pub field24 : ℕ
field24 = 7

abbrev pub field34 : ℕ
field34 = 12

-- ---- the parts of a card, from the contents f 0, f 1, .. in the order of the table
-- x cut, or filled with zeros, to n bytes
abbrev pub fit : ℕ → List ℕ → List ℕ
fit n x = tabulate n (λ k. get_or x k 0)

abbrev pub path_from : List ℕ → Path
path_from x = record { len = min (length x) path_most_bytes; bytes = fit path_most_bytes x }

abbrev pub slot_from : List ℕ → Slot
slot_from x = record { filled = get_or x 0 0; key = fit key_bytes (drop 1 x) }

unfoldable pub slots_from : ℕ → List ℕ → List Slot
slots_from zero x = []
slots_from (suc n) x = slot_from x ∷ slots_from n (drop slot_bytes x)

abbrev pub identity_from : (ℕ → List ℕ) → Identity
identity_from f = record { uid = fit uid_bytes (f 1); public_key = fit public_key_bytes (f 2) }

abbrev pub pins_from : (ℕ → List ℕ) → Pins
pins_from f = record {
  pin = fit pin_bytes (f 3);
  puk = fit puk_bytes (f 4);
  pin_tries = get_or (f 6) 0 0;
  puk_tries = get_or (f 6) 1 0;
  verified = 0;
}

abbrev pub pairing_from : (ℕ → List ℕ) → Pairing
pairing_from f = record {
  secret = fit key_bytes (f 5);
  slots = slots_from slot_count (fit (slot_bytes * slot_count) (f field24));
  pending = 0;
  expected = zeros key_bytes;
}

abbrev pub keys_from : (ℕ → List ℕ) → Keys
keys_from f = record {
  kind = get_or (f 8) 0 0;
  uid = fit key_bytes (f 9);
  current = path_from (f 10);
  pinless = path_from (f 11);
}

abbrev pub tap_from : List ℕ → Tap
tap_from x = record { len = min (length x) tap_most_bytes; bytes = fit tap_most_bytes x }

-- the whole card, reset; the content of a field that is not there is empty
abbrev pub card_from : (ℕ → List ℕ) → Card
card_from f = record {
  initialised = get_or (f 0) 0 0;
  identity = identity_from f;
  pins = pins_from f;
  pairing = pairing_from f;
  keys = keys_from f;
  channel = closed_of;
  tap = tap_from (f field34);
}

unfoldable pub card_of : List ℕ → Card
card_of s = card_from (content s)
