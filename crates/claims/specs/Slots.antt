-- The pairing slots (RULES 2.2, 6.4, 6.5, 6.6, 6.8, 6.9): there are eight, with indexes 0 to 7. Every length and room is in bytes.
use Rattle.std.specs.Prelude.{ℕ, ◌+◌, ◌≤◌, ◌<◌, ◌≡◌, true, cond, List, [], ◌∷◌, ◌++◌, ◌↔◌, eqb, length, get_or}
use Rattle.std.proofs.Math.Option.{some}
use Rattle.sha_rules.specs.Hash.{sha256}
use Rattle.template_answers.specs.Answers.{application_info}
use Rattle.card.specs.declared.Channel.{Channel}
use Rattle.card.specs.declared.Card.{Card}
use Rattle.card.specs.State.{zeros, free_slot, fresh_of, with_pairing, not_pending, key_uid}
use Rattle.card.specs.Sound.{is_sound}
use Rattle.card.specs.Shape.{Shaped}
use Rattle.card_slots.specs.Free.{LeastFree}
use Rattle.rules.specs.Commands.{is_verified, application_id, free_slots, with_slot}
use Rattle.rules.specs.Channel.{with_mac}
use Rattle.rules.specs.Steps.{data_of, is_initialised}
use Rattle.rules.specs.Engine.{AnswerOut, answer_out}
use Rattle.laws_exchange.specs.Exchange.{Typed, Turn, answered_by, unsealed_by}
use Rattle.laws_two_runs.specs.Runs.{Call, end_of}
use Rattle.claims.specs.Rows.{Initialises, initialised}
use Rattle.claims.specs.TapRecord.{Fails}

-- ---- the flag of the slot with this index: 0 for a free slot, 1 for a filled one; and how many free slots there are at it, 1 or 0
abbrev pub flag_at : Card → ℕ → ℕ
flag_at c i = (get_or c.pairing.slots i free_slot).filled

abbrev pub free_at : Card → ℕ → ℕ
free_at c i = cond (eqb (flag_at c i) 0) 1 0

-- ---- plain commands, by what follows their header: SELECT 00 A4 04 00, OPEN 80 10 P1 P2, PAIR 80 12 P1 00
abbrev pub select_command : List ℕ → List ℕ
select_command rest = 0x00 ∷ 0xA4 ∷ 0x04 ∷ 0x00 ∷ rest

abbrev pub open_command : ℕ → ℕ → List ℕ → List ℕ
open_command p1 p2 rest = 0x80 ∷ 0x10 ∷ p1 ∷ p2 ∷ rest

abbrev pub pair_command : ℕ → List ℕ → List ℕ
pair_command p1 rest = 0x80 ∷ 0x12 ∷ p1 ∷ 0x00 ∷ rest

-- what is supposed of each: the card is sound and initialised, the command has a right form and these data (RULES 5.2), and there is room enough
pub record Supposed (c : Card) (cmd data' : List ℕ) (room : ℕ) : Type 0 where
  pub sound : is_sound c ≡ true
  pub initialised : is_initialised c ≡ true
  pub form : data_of cmd ≡ some data'
  pub enough : 258 ≤ room

-- the answer is not refused, and is these bytes
pub record Says (a : AnswerOut) (bytes : List ℕ) : Type 0 where
  pub taken : a.refusal ≡ 0
  pub reads : a.bytes ≡ bytes

-- ---- OPEN that succeeds: a point, 04 and 64 bytes; flag 01, both keys, salt and IV as the supply. The answer is salt and IV, and the channel is in
-- stage 1 with these keys and this IV
pub record Opening (point supply enc mac salt iv : List ℕ) : Type 0 where
  pub xy : List ℕ
  pub whole : point ≡ 0x04 ∷ xy
  pub xy64 : length xy ≡ 64
  pub supplied : supply ≡ 0x01 ∷ (enc ++ (mac ++ (salt ++ iv)))
  pub enc32 : length enc ≡ 32
  pub mac32 : length mac ≡ 32
  pub salt32 : length salt ≡ 32
  pub iv16 : length iv ≡ 16

abbrev pub stage1 : List ℕ → List ℕ → List ℕ → Channel
stage1 enc mac iv = record { stage = 1; enc_key = enc; mac_key = mac; iv = iv }

-- ---- PAIR's final step that succeeds: the free slot with the least index is filled with this key; the answer is its index and the salt
pub record Paired (c : Card) (salt key : List ℕ) (a : AnswerOut) : Type 0 where
  pub index : ℕ
  pub under : index < 8
  pub least : LeastFree c.pairing.slots index
  pub says : Says a (index ∷ (salt ++ (0x90 ∷ 0x00 ∷ [])))
  pub card : a.card ≡ with_pairing c (with_slot (not_pending c.pairing) index (record { filled = 1; key = key }))

-- ---- a turn of SEAL, ANSWER and UNSEAL with UNPAIR: its header, 80 13 P1 P2
abbrev pub unpair_with : ℕ → ℕ → List ℕ
unpair_with p1 p2 = 0x80 ∷ 0x13 ∷ p1 ∷ p2 ∷ []

-- how it ends where the slot is freed: with 9000 and no data, and nothing of the card has moved but this slot, which is free, and the channel's IV
pub record Freed (c : Card) (t : Turn) (i : ℕ) : Type 0 where
  pub answered : (answered_by c t).refusal ≡ 0
  pub accepted : (unsealed_by c t).refusal ≡ 0
  pub reads : (unsealed_by c t).bytes ≡ 0x90 ∷ 0x00 ∷ []
  pub card : (answered_by c t).card ≡ with_mac (with_pairing c (with_slot c.pairing i free_slot)) (unsealed_by c t).session.iv
  pub free : flag_at (answered_by c t).card i ≡ 0

-- ---- examples: what a card that calls reach from FRESH answers to a SELECT, an OPEN of slot P1, or a first PAIR, with data and supply of zeros
abbrev pub at : List Call → Card
at calls = end_of (fresh_of (zeros 16) (zeros 65)) calls

abbrev pub Selects : Card → List ℕ → Type 0
Selects c bytes = Says (answer_out c (select_command (15 ∷ application_id)) [] 258) bytes

abbrev pub Opens : Card → ℕ → List ℕ → Type 0
Opens c p1 bytes = Says (answer_out c (open_command p1 0 (65 ∷ 0x04 ∷ zeros 64)) (0x01 ∷ zeros 112) 258) bytes

abbrev pub Pairs : Card → List ℕ → Type 0
Pairs c bytes = Says (answer_out c (pair_command 0 (32 ∷ zeros 32)) (zeros 32) 258) bytes

-- calls that fill all eight: SELECT tells 0, one more PAIR finds no slot, OPEN of slot 7 succeeds, and there is no slot 8
pub record AllFilled : Type 0 where
  pub calls : List Call
  pub filled : (k : ℕ) → k < 8 → flag_at (at calls) k ≡ 1
  pub select : Selects (at calls) (application_info (zeros 16) (zeros 65) 0 [] ++ (0x90 ∷ 0x00 ∷ []))
  pub ninth : Pairs (at calls) (0x6A ∷ 0x84 ∷ [])
  pub open7 : Opens (at calls) 7 (zeros 48 ++ (0x90 ∷ 0x00 ∷ []))
  pub open8 : Opens (at calls) 8 (0x6A ∷ 0x86 ∷ [])

-- a card with a verified PIN whose slot 0 alone is filled: SELECT tells 7, OPEN of slot 7 finds it free; UNPAIR of slot 7, and of slot 8
pub record OneFilled : Type 0 where
  pub calls : List Call
  pub verified : is_verified (at calls).pins ≡ true
  pub filled : flag_at (at calls) 0 ≡ 1
  pub select : Selects (at calls) (application_info (zeros 16) (zeros 65) 7 [] ++ (0x90 ∷ 0x00 ∷ []))
  pub open7 : Opens (at calls) 7 (0x6A ∷ 0x86 ∷ [])
  pub turn7 : Turn
  pub header7 : turn7.header ≡ unpair_with 7 0
  pub unpair7 : Freed (at calls) turn7 7
  pub turn8 : Turn
  pub header8 : turn8.header ≡ unpair_with 8 0
  pub unpair8 : Fails (at calls) turn8 (0x6A ∷ 0x86 ∷ [])

pub record Slots : Type 0 where
  -- a card has eight slots; of the card that INIT has just made all eight are free
  pub eight : (c : Card) → Shaped c → length c.pairing.slots ≡ 8
  pub afterinit : (c : Card) (i : Initialises c) → Shaped c → free_slots (initialised c i).pairing.slots ≡ 8
  -- SELECT with the application's name tells how many are free, and they are counted over the indexes 0 to 7
  pub told : (c : Card) (rest s : List ℕ) (room : ℕ) → Supposed c (select_command rest) application_id room
      → Says (answer_out c (select_command rest) s room)
      (application_info c.identity.uid c.identity.public_key (free_slots c.pairing.slots) (key_uid c.keys) ++ (0x90 ∷ 0x00 ∷ []))
  pub counts : (c : Card) → Shaped c → free_slots c.pairing.slots
      ≡ free_at c 0 + free_at c 1 + free_at c 2 + free_at c 3 + free_at c 4 + free_at c 5 + free_at c 6 + free_at c 7
  -- OPEN says 6A86 where P1 is 8 or more, whatever P2, and where its slot is free, whatever the data and the supply
  pub openover : (c : Card) (p1 p2 : ℕ) (rest s d : List ℕ) (room : ℕ) → Supposed c (open_command p1 p2 rest) d room → 8 ≤ p1
      → Says (answer_out c (open_command p1 p2 rest) s room) (0x6A ∷ 0x86 ∷ [])
  pub openfree : (c : Card) (p1 : ℕ) (rest s d : List ℕ) (room : ℕ) → Supposed c (open_command p1 0 rest) d room → p1 < 8 → flag_at c p1 ≡ 0
      → Says (answer_out c (open_command p1 0 rest) s room) (0x6A ∷ 0x86 ∷ [])
  -- with P1 of 7 or less, a filled slot, a point, and a supply with flag 01, it opens the channel
  pub openfilled : (c : Card) (p1 : ℕ) (rest s d enc mac salt iv : List ℕ) (room : ℕ) → Supposed c (open_command p1 0 rest) d room → p1 < 8
      → (flag_at c p1 ≡ 0 → ⊥) → Opening d s enc mac salt iv
      → Says (answer_out c (open_command p1 0 rest) s room) (salt ++ (iv ++ (0x90 ∷ 0x00 ∷ [])))
      × ((answer_out c (open_command p1 0 rest) s room).card.channel ≡ stage1 enc mac iv)
  -- PAIR's first step, with 32 bytes outside stage 2, says 6A84 exactly where none of the eight is free; its final step, where a pairing is pending
  -- and the data are the cryptogram expected, fills the first free one with the hash of pairing secret and salt
  pub pairfull : (c : Card) (rest s d : List ℕ) (room : ℕ) → Supposed c (pair_command 0 rest) d room → Shaped c
      → (c.channel.stage ≡ 2 → ⊥) → length d ≡ 32
      → ((answer_out c (pair_command 0 rest) s room).bytes ≡ 0x6A ∷ 0x84 ∷ []) ↔ ((k : ℕ) → k < 8 → flag_at c k ≡ 0 → ⊥)
  pub pairs : (c : Card) (rest salt : List ℕ) (room : ℕ) → Supposed c (pair_command 1 rest) c.pairing.expected room → Shaped c
      → (c.pairing.pending ≡ 0 → ⊥) → length salt ≡ 32
      → Paired c salt (sha256 (c.pairing.secret ++ salt)) (answer_out c (pair_command 1 rest) salt room)
  -- UNPAIR in stage 2 fails with 6A86 where P1 is 8 or more, whatever P2, the PIN and the data; with P1 of 7 or less and a verified PIN it frees
  -- that slot
  pub unpairover : (c : Card) (t : Turn) (p1 p2 : ℕ) → is_sound c ≡ true → Typed c → t.header ≡ unpair_with p1 p2 → 8 ≤ p1
      → c.channel.stage ≡ 2 → Fails c t (0x6A ∷ 0x86 ∷ [])
  pub unpairs : (c : Card) (t : Turn) (p1 : ℕ) → is_sound c ≡ true → Typed c → t.header ≡ unpair_with p1 0 → p1 < 8
      → is_verified c.pins ≡ true → Freed c t p1
  -- and these occur, from FRESH
  pub allfilled : AllFilled
  pub onefilled : OneFilled
