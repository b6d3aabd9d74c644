-- The tap record (RULES 6.20): SET NDEF alone changes it, with a verified PIN and data that count themselves, and it is then these data; there it
-- does, and elsewhere it fails; a power-up keeps it. Every length and room is in bytes.
use Rattle.std.specs.Prelude.{ℕ, ◌+◌, ◌*◌, ◌≤◌, ◌≡◌, true, false, List, [], ◌∷◌, ◌↔◌, length}
use Rattle.card.specs.declared.Card.{Card}
use Rattle.card.specs.State.{zeros, fresh_of, with_tap, tap_bytes, tap_of}
use Rattle.card.specs.Sound.{is_sound, is_ndef}
use Rattle.sound.specs.Reset.{reset_answer}
use Rattle.rules.specs.Commands.{is_verified}
use Rattle.rules.specs.Channel.{with_mac}
use Rattle.rules.specs.Engine.{answer_out}
use Rattle.record_rules.specs.declared.Form.{Form}
use Rattle.record_rules.specs.Fields.{encode_all, fields_in, record_of}
use Rattle.record_rules.specs.Forms.{forms, Listed}
use Rattle.record_tap.specs.Tap.{tap_part}
use Rattle.laws_engine.specs.Tapped.{TapAfter}
use Rattle.laws_exchange.specs.Exchange.{Typed, Turn, answered_by, unsealed_by}
use Rattle.laws_two_runs.specs.Runs.{Call, end_of}

-- ---- data that count themselves: two bytes, and the message that they count, high byte first; 223 bytes at most in all. It is said here a second
-- time, apart from the rule's own test
pub record Counted (d : List ℕ) : Type 0 where
  pub high : ℕ
  pub low : ℕ
  pub message : List ℕ
  pub whole : d ≡ high ∷ low ∷ message
  pub count : high * 256 + low ≡ length message
  pub most : length d ≤ 223

-- ---- a turn of SEAL, ANSWER and UNSEAL with SET NDEF: its header, 80 F3 P1 P2, and the one that is listed
abbrev pub ndef_with : ℕ → ℕ → List ℕ
ndef_with p1 p2 = 0x80 ∷ 0xF3 ∷ p1 ∷ p2 ∷ []

abbrev pub ndef_header : List ℕ
ndef_header = ndef_with 0x00 0x00

-- how it ends where the data are stored: with 9000 and no data, and nothing of the card has moved but the tap record and the channel's IV
pub record Stored (c : Card) (t : Turn) : Type 0 where
  pub answered : (answered_by c t).refusal ≡ 0
  pub accepted : (unsealed_by c t).refusal ≡ 0
  pub reads : (unsealed_by c t).bytes ≡ 0x90 ∷ 0x00 ∷ []
  pub card : (answered_by c t).card ≡ with_mac (with_tap c (tap_of t.data')) (unsealed_by c t).session.iv

-- how it ends where they are not: with this status word and no data, and nothing of the card has moved but the channel's IV
pub record Fails (c : Card) (t : Turn) (w : List ℕ) : Type 0 where
  pub answered : (answered_by c t).refusal ≡ 0
  pub accepted : (unsealed_by c t).refusal ≡ 0
  pub reads : (unsealed_by c t).bytes ≡ w
  pub card : (answered_by c t).card ≡ with_mac c (unsealed_by c t).session.iv

-- ---- an example: from FRESH a list of calls leads to a card without a tap record, where a terminal reads 9000 to a SET NDEF with these data, and
-- they are the tap record; and what the tap read (RULES 10.7) gives of the card's record before it, and after it, with any factory record
abbrev pub before : List Call → Card
before calls = end_of (fresh_of (zeros 16) (zeros 65)) calls

pub record Example (data' : List ℕ) : Type 0 where
  pub calls : List Call
  pub turn : Turn
  pub header : turn.header ≡ ndef_header
  pub given : turn.data' ≡ data'
  pub none : tap_bytes (before calls).tap ≡ []
  pub reads : (unsealed_by (before calls) turn).bytes ≡ 0x90 ∷ 0x00 ∷ []
  pub tapped : tap_bytes (answered_by (before calls) turn).card.tap ≡ data'
  -- before it the factory record, in each form of the record, two of which have no field 34; after it the data
  pub factory : (f : List ℕ) → tap_part (record_of (before calls)) f ≡ f
  pub factoryeach : (g : Form) → Listed g forms → (f : List ℕ) → tap_part (encode_all (fields_in g (before calls))) f ≡ f
  pub own : (f : List ℕ) → tap_part (record_of (answered_by (before calls) turn).card) f ≡ data'

pub record TapRecord : Type 0 where
  -- every ANSWER, whatever the card, the command, the supply and the room: the next card has the tap record of the card given; or the command is
  -- SET NDEF, the PIN is verified, and its opened data, which SET NDEF takes, are the tap record
  pub answers : (c : Card) (cmd s : List ℕ) (room : ℕ) → TapAfter c cmd (answer_out c cmd s room).card
  -- what it takes are the data that count themselves, and the tap record of data has them as its bytes in use
  pub taken : (d : List ℕ) → (is_ndef d ≡ true) ↔ Counted d
  pub bytes : (d : List ℕ) → tap_bytes (tap_of d) ≡ d
  -- with a verified PIN such data are stored
  pub stores : (c : Card) (t : Turn) → is_sound c ≡ true → Typed c → t.header ≡ ndef_header → is_verified c.pins ≡ true → Counted t.data'
      → Stored c t
  -- in stage 2 it fails with 6A86 where P1 and P2 are not both 00, whatever the PIN and the data; else with 6985 without a verified PIN, whatever
  -- the data; and with 6A80 with a verified PIN and other data
  pub unlisted : (c : Card) (t : Turn) (p1 p2 : ℕ) → is_sound c ≡ true → Typed c → t.header ≡ ndef_with p1 p2 → (p1 ≡ 0 → p2 ≡ 0 → ⊥)
      → c.channel.stage ≡ 2 → Fails c t (0x6A ∷ 0x86 ∷ [])
  pub unverified : (c : Card) (t : Turn) → is_sound c ≡ true → Typed c → t.header ≡ ndef_header → c.channel.stage ≡ 2
      → is_verified c.pins ≡ false → Fails c t (0x69 ∷ 0x85 ∷ [])
  pub miscounted : (c : Card) (t : Turn) → is_sound c ≡ true → Typed c → t.header ≡ ndef_header → is_verified c.pins ≡ true
      → (Counted t.data' → ⊥) → Fails c t (0x6A ∷ 0x80 ∷ [])
  -- a fresh card has no tap record; a power-up keeps it
  pub fresh : (uid key : List ℕ) → tap_bytes (fresh_of uid key).tap ≡ []
  pub powerup : (c : Card) → (reset_answer c).card.tap ≡ c.tap
  -- and this occurs: the data 00 01 D0
  pub one : Example (0x00 ∷ 0x01 ∷ 0xD0 ∷ [])
