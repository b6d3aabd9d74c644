-- Demand 2 (RULES 11.2): what goes out comes back, what ASK says ANSWER does, soundness is kept, and the room asked for is enough. Terminal
-- and card together are in crate `laws_exchange`, Exchange. Every length, room and count is in bytes.
use Rattle.std.specs.Prelude.{ℕ, ◌+◌, ◌≤◌, ◌<◌, ◌≡◌, Bool, true, false, List, [], ◌∷◌, ◌++◌, ◌↔◌, ◌⊎◌, length, drop, replicate}
use Rattle.octets.specs.Bytes.{Bytes}
use Rattle.channel_rules.specs.declared.Session.{Session}
use Rattle.channel_rules.specs.Message.{Keyed, with_iv, lr, response_head, ciphertext, field_mac, seal_field}
use Rattle.channel_rules.specs.Terminal.{plain_success, sealed_response, unseal_out}
use Rattle.template_walk.specs.Walk.{WALK}
use Rattle.template_answers.specs.Answers.{pre_initialised, application_info, status, signature, exported_public, exported_pair}
use Rattle.card.specs.declared.Card.{Card}
use Rattle.card.specs.Sizes.{card_bytes}
use Rattle.card.specs.State.{fresh_of, reset_of}
use Rattle.card.specs.Slots.{all_of, is_free}
use Rattle.card.specs.Sound.{is_sound}
use Rattle.card.specs.Shape.{Shaped}
use Rattle.sound.specs.Reset.{reset_answer}
use Rattle.record_rules.specs.declared.Form.{Form}
use Rattle.record_rules.specs.Fields.{encode_all, fields_in, record_of}
use Rattle.record_rules.specs.Lengths.{record_fresh, record_least, record_most, write_room}
use Rattle.record_rules.specs.Forms.{forms, holds, renewed, Listed, InForm}
use Rattle.record_rules.specs.Renewal.{Renewal}
use Rattle.record_rules.specs.Answers.{write_refusal, write_bytes, read_answer}
use Rattle.rules.specs.Supplies.{suits}
use Rattle.rules.specs.Steps.{goes, Arrived, arrival, decide}
use Rattle.rules.specs.Engine.{ask_out, answer_out}

-- ---- a response sealed by the rule of version 0.1.0, under which Lr counted the ciphertext alone, without the MAC of 16 bytes
abbrev pub old_head : ℕ → List ℕ
old_head n = n ∷ replicate 15 0

abbrev pub old_response : Session → List ℕ → List ℕ
old_response s p = seal_field s old_head p ++ plain_success

-- an example: a session of zeros
abbrev pub zero_session : Session
zero_session = record { enc_key = replicate 32 0; mac_key = replicate 32 0; iv = replicate 16 0 }

-- ---- sealed messages, from card to terminal. Lr is the length of the field, MAC and ciphertext. UNSEAL gives the bytes that were sealed, and the
-- session of the card that sealed them. With the same session it never takes a response sealed by the old rule: 7 where the room is enough, 2
-- where it is not, and the session as given
pub record Responses : Type 0 where
  pub lrcounts : (s : Session) (p : List ℕ) → Keyed s → Bytes p → length p ≤ 223
      → lr (length (ciphertext s p)) ≡ length (seal_field s response_head p)
  pub unseals : (s : Session) (p : List ℕ) (room : ℕ) → Keyed s → Bytes p → 2 ≤ length p → length p ≤ 223 → 223 ≤ room
      → unseal_out s (sealed_response s p) room ≡ record { refusal = 0; session = with_iv s (field_mac s response_head p); bytes = p }
  pub oldrefused : (s : Session) (p : List ℕ) (room : ℕ) → Keyed s → Bytes p → length p ≤ 223 → 223 ≤ room
      → unseal_out s (old_response s p) room ≡ record { refusal = 7; session = s; bytes = [] }
  pub oldroom : (s : Session) (p : List ℕ) (room : ℕ) → room < 223
      → unseal_out s (old_response s p) room ≡ record { refusal = 2; session = s; bytes = [] }
  -- 9000 alone under the session of zeros: taken as it is sealed now, refused as it was sealed
  pub example : ((unseal_out zero_session (sealed_response zero_session (0x90 ∷ 0x00 ∷ [])) 223).refusal ≡ 0)
      × ((unseal_out zero_session (old_response zero_session (0x90 ∷ 0x00 ∷ [])) 223).refusal ≡ 7)

-- ---- the stored record (RULES 10.5): READ of WRITE is RESET; what READ takes is written as it was, or with an empty field 34 at its end, or with
-- three free slots more in field 24, or with both, namely as its form is renewed; in the form that WRITE writes, byte for byte; and no bytes are,
-- in the forms that READ takes, records in two forms, nor of two cards that RESET leaves different
-- the record of a card in a form that holds it: READ gives the card that it gives for the form that WRITE writes, and WRITE writes that form,
-- which is the other one renewed
pub record OtherForm (f : Form) (c : Card) (room : ℕ) : Type 0 where
  pub read : read_answer (encode_all (fields_in f c)) ≡ reset_answer c
  pub written : write_bytes (read_answer (encode_all (fields_in f c))).card room ≡ renewed f (encode_all (fields_in f c))
  pub same : renewed f (encode_all (fields_in f c)) ≡ record_of c

pub record Records : Type 0 where
  pub readwrite : (c : Card) (room : ℕ) → Shaped c → write_refusal c room ≡ 0 → read_answer (write_bytes c room) ≡ reset_answer c
  pub writeread : (s : List ℕ) (room : ℕ) → write_room ≤ room → (read_answer s).refusal ≡ 0
      → (write_refusal (read_answer s).card room ≡ 0) × Renewal s (write_bytes (read_answer s).card room)
  pub renews : (s : List ℕ) (room : ℕ) → write_room ≤ room → (c : Card) → Shaped c → is_sound c ≡ true → (r : InForm s c forms)
      → write_bytes (read_answer s).card room ≡ renewed r.form s
  pub current : (c : Card) (room : ℕ) → Shaped c → is_sound c ≡ true → write_room ≤ room → write_bytes (read_answer (record_of c)).card room ≡ record_of c
  pub other : (f : Form) → Listed f forms → (c : Card) (room : ℕ) → Shaped c → is_sound c ≡ true → holds f c ≡ true → write_room ≤ room
      → OtherForm f c room
  -- there are four forms, by the number of slots in field 24 and whether field 34 is there; each of them holds an initialised card without a tap record, whose slots 5 to 7 are free
  pub four : forms
      ≡ record { slots = 8; tapped = true }
      ∷ record { slots = 8; tapped = false }
      ∷ record { slots = 5; tapped = true }
      ∷ record { slots = 5; tapped = false }
      ∷ []
  pub held : (f : Form) → Listed f forms → (c : Card) → c.initialised ≡ 1 → c.tap.len ≡ 0 → all_of is_free (drop 5 c.pairing.slots) ≡ true
      → Shaped c → holds f c ≡ true
  pub onecard : (s : List ℕ) (c d : Card) → Shaped c → Shaped d → is_sound c ≡ true → is_sound d ≡ true → InForm s c forms → InForm s d forms
      → reset_of c ≡ reset_of d
  pub oneform : (s : List ℕ) (c d : Card) → Shaped c → Shaped d → is_sound c ≡ true → is_sound d ≡ true → (r : InForm s c forms) (t : InForm s d forms)
      → r.form ≡ t.form

-- ---- WALK (RULES 11.2): fields one after the other add up, and each template that a command answers has the fields that it is made of, where
-- each length fits its byte: its parts are at most as long as those of a card and of a supply
pub record Walks : Type 0 where
  pub joined : (s t : List ℕ) (m n : ℕ) → WALK s ≡ record { refusal = 0; count = m; offset = 0 } → WALK t ≡ record { refusal = 0; count = n; offset = 0 }
      → WALK (s ++ t) ≡ record { refusal = 0; count = m + n; offset = 0 }
  pub preinitialised : (key : List ℕ) → length key < 256 → WALK (pre_initialised key) ≡ record { refusal = 0; count = 1; offset = 0 }
  pub application : (uid key : List ℕ) (free : ℕ) (key_uid : List ℕ) → length uid ≤ 16 → length key ≤ 65 → length key_uid ≤ 32
      → WALK (application_info uid key free key_uid) ≡ record { refusal = 0; count = 5; offset = 0 }
  pub status : (pin puk : ℕ) (key : Bool) → WALK (status pin puk key) ≡ record { refusal = 0; count = 3; offset = 0 }
  pub signature : (key r s : List ℕ) → length key ≤ 65 → length r ≤ 32 → length s ≤ 32
      → WALK (signature key r s) ≡ record { refusal = 0; count = 3; offset = 0 }
  pub exportedpublic : (key : List ℕ) → length key ≤ 65 → WALK (exported_public key) ≡ record { refusal = 0; count = 1; offset = 0 }
  pub exportedpair : (key private : List ℕ) → length key ≤ 65 → length private ≤ 32
      → WALK (exported_pair key private) ≡ record { refusal = 0; count = 2; offset = 0 }

-- ---- ASK and ANSWER (RULES 11.2), for a sound card and room for both. ASK gives the kind of the supply that the order of checks asks for,
-- and exactly the supplies of that one's form are taken. Kind 0: no supply is read, and ASK writes nothing. Another kind: ASK writes the data,
-- opened where they are sealed, of the command that comes to its checks
pub record Agreement (c : Card) (cmd : List ℕ) (asks answers : ℕ) : Type 0 where
  pub kind : (ask_out c cmd asks).kind ≡ (decide c cmd).supply.kind
  pub unread : (ask_out c cmd asks).kind ≡ 0 → (s t : List ℕ) → answer_out c cmd s answers ≡ answer_out c cmd t answers
  pub untouched : (ask_out c cmd asks).kind ≡ 0 → (s : List ℕ) → (answer_out c cmd s answers).refusal ≡ 0
  pub nothing : (ask_out c cmd asks).kind ≡ 0 → (ask_out c cmd asks).bytes ≡ []
  pub refused : (s : List ℕ) → (answer_out c cmd s answers).refusal ≡ 3 ↔ suits (decide c cmd).supply s ≡ false
  pub taken : (s : List ℕ) → (answer_out c cmd s answers).refusal ≡ 0 ↔ suits (decide c cmd).supply s ≡ true
  pub told : ((ask_out c cmd asks).kind ≡ 0 → ⊥) → (a : Arrived) × (arrival c cmd ≡ goes a) × ((ask_out c cmd asks).bytes ≡ a.data')

-- ---- every card that an operation gives (RULES 2.4) is sound, if the one that it was given is
pub record Soundness : Type 0 where
  pub fresh : (uid key : List ℕ) → is_sound (fresh_of uid key) ≡ true
  pub reset : (c : Card) → is_sound c ≡ true → is_sound (reset_answer c).card ≡ true
  pub read : (s : List ℕ) → is_sound (read_answer s).card ≡ true
  pub answer : (c : Card) (cmd s : List ℕ) (room : ℕ) → is_sound c ≡ true → is_sound (answer_out c cmd s room).card ≡ true

-- ---- RESET twice is RESET once, for every card: of a sound one the next card, of an unsound one refusal 1 and the card as given
pub record Resets : Type 0 where
  pub twice : (c : Card) → reset_answer (reset_answer c).card ≡ reset_answer c

-- ---- the room that is asked for is enough (RULES 11.2): ASK and ANSWER write no more, and a record has its length
pub record Sizes : Type 0 where
  -- the sums by their numbers: the card, the record before INIT, and the least and the greatest after it, which is the room that WRITE asks for
  pub card : card_bytes ≡ 852
  pub fresh : record_fresh ≡ 91
  pub least : record_least ≡ 438
  pub most : record_most ≡ 773
  pub room : write_room ≡ 773
  pub ask : (c : Card) (cmd : List ℕ) (room : ℕ) → Bytes cmd → is_sound c ≡ true → 255 ≤ room → length (ask_out c cmd room).bytes ≤ 255
  pub answer : (c : Card) (cmd s : List ℕ) (room : ℕ) → Shaped c → length (answer_out c cmd s room).bytes ≤ 242
  pub write : (c : Card) → Shaped c → is_sound c ≡ true
      → (length (record_of c) ≡ record_fresh) ⊎ ((record_least ≤ length (record_of c)) × (length (record_of c) ≤ record_most))

pub record Trips : Type 0 where
  pub responses : Responses
  pub records : Records
  pub walks : Walks
  pub agree : (c : Card) (cmd : List ℕ) (asks answers : ℕ) → is_sound c ≡ true → 255 ≤ asks → 258 ≤ answers → Agreement c cmd asks answers
  pub soundness : Soundness
  pub resets : Resets
  pub sizes : Sizes
