-- The fault offset (RULES 5.9): exactly when ANSWER tells one, and which; LOAD's turns, with one and without. Every length, room and offset is in
-- bytes.
use Rattle.std.specs.Prelude.{ℕ, ◌≤◌, ◌<◌, ◌≡◌, true, false, List, [], ◌∷◌, ◌↔◌, length}
use Rattle.octets.specs.Bytes.{Bytes}
use Rattle.template_walk.specs.Walk.{WALK}
use Rattle.card.specs.declared.Card.{Card}
use Rattle.card.specs.Sound.{is_sound}
use Rattle.rules.specs.declared.KeyForm.{KeyForm}
use Rattle.rules.specs.declared.KeyForm.TheVariants as key
use Rattle.rules.specs.Words.{wrong_data, fails}
use Rattle.rules.specs.Commands.{is_verified, is_key_data}
use Rattle.rules.specs.Channel.{with_mac, Outgoing, tell}
use Rattle.rules.specs.Engine.{AnswerOut, answer_out}
use Rattle.laws_engine.specs.Faults.{LoadFault, offset_of}
use Rattle.laws_exchange.specs.Exchange.{Typed, Turn, answered_by, unsealed_by}
use Rattle.laws_two_runs.specs.Runs.{Call}
use Rattle.claims.specs.Slots.{at}
use Rattle.claims.specs.Hashing.{load_header}

-- ---- ANSWER's report is this answer, and this fault offset beside it
pub record Tells (a : AnswerOut) (t : Outgoing) (offset : ℕ) : Type 0 where
  pub taken : a.refusal ≡ 0
  pub bytes : a.bytes ≡ t.bytes
  pub card : a.card ≡ t.card
  pub fault_offset : a.fault_offset ≡ offset

-- ---- a turn with LOAD that ends with this status word and no data, and this fault offset; nothing of the card has moved but the channel's IV
pub record LoadFails (c : Card) (t : Turn) (word : List ℕ) (offset : ℕ) : Type 0 where
  pub answered : (answered_by c t).refusal ≡ 0
  pub accepted : (unsealed_by c t).refusal ≡ 0
  pub reads : (unsealed_by c t).bytes ≡ word
  pub card : (answered_by c t).card ≡ with_mac c (unsealed_by c t).session.iv
  pub fault_offset : (answered_by c t).fault_offset ≡ offset

-- what is supposed of such a turn: the card is sound and in stage 2
pub record Supposed (c : Card) (t : Turn) (form : KeyForm) : Type 0 where
  pub sound : is_sound c ≡ true
  pub typed : Typed c
  pub stage : c.channel.stage ≡ 2
  pub header : t.header ≡ load_header form

-- ---- an example: from FRESH, calls lead to a card where LOAD with these data ends with 6A80 and this fault offset
pub record Example (form : KeyForm) (data' : List ℕ) (offset : ℕ) : Type 0 where
  pub calls : List Call
  pub turn : Turn
  pub header : turn.header ≡ load_header form
  pub given : turn.data' ≡ data'
  pub ends : LoadFails (at calls) turn (0x6A ∷ 0x80 ∷ []) offset

pub record Faults : Type 0 where
  -- on a sound card and with room enough, whatever the command and the supply: the number is not 255 exactly for a LOAD with P1 01 or 02 that comes
  -- to the check of its data, and WALK refuses these
  pub exactly : (c : Card) (cmd s : List ℕ) (room : ℕ) → is_sound c ≡ true → 258 ≤ room → Bytes cmd
      → ((answer_out c cmd s room).fault_offset ≡ 255 → ⊥) ↔ LoadFault c cmd
  -- it is then WALK's offset, that of a byte of the data; and the answer is 6A80, as the rules send it, with the card that an error leaves
  pub told : (c : Card) (cmd s : List ℕ) (room : ℕ) → is_sound c ≡ true → 258 ≤ room → (x : LoadFault c cmd)
      → Tells (answer_out c cmd s room) (tell x.arrived.over (fails x.arrived.lost wrong_data)) (offset_of x)
      × (offset_of x < length x.arrived.data')
  -- turns with P1 01 or 02 and a verified PIN whose data WALK refuses: 6A80 and WALK's offset, under the length of the data, at most 223
  pub refused : (c : Card) (t : Turn) (form : KeyForm) → Supposed c t form → (form ≡ key.Seed → ⊥) → is_verified c.pins ≡ true
      → ((WALK t.data').refusal ≡ 0 → ⊥)
      → LoadFails c t (0x6A ∷ 0x80 ∷ []) (WALK t.data').offset × ((WALK t.data').offset < length t.data')
  -- 6A80 and 255: data that WALK takes and LOAD does not, with P1 01, 02 or 03; other data than a seed with P1 03; data that LOAD takes, and flag 00
  pub accepted : (c : Card) (t : Turn) (form : KeyForm) → Supposed c t form → is_verified c.pins ≡ true → (WALK t.data').refusal ≡ 0
      → is_key_data form t.data' ≡ false → LoadFails c t (0x6A ∷ 0x80 ∷ []) 255
  pub seed : (c : Card) (t : Turn) → Supposed c t key.Seed → is_verified c.pins ≡ true → (length t.data' ≡ 64 → ⊥)
      → LoadFails c t (0x6A ∷ 0x80 ∷ []) 255
  pub denied : (c : Card) (t : Turn) (form : KeyForm) (rest : List ℕ) → Supposed c t form → is_verified c.pins ≡ true
      → is_key_data form t.data' ≡ true → t.supply ≡ 0x00 ∷ rest → length rest ≡ 65 → LoadFails c t (0x6A ∷ 0x80 ∷ []) 255
  -- 6985 and 255 without a verified PIN, whatever the data
  pub unverified : (c : Card) (t : Turn) (form : KeyForm) → Supposed c t form → is_verified c.pins ≡ false
      → LoadFails c t (0x69 ∷ 0x85 ∷ []) 255
  -- and these occur: a field at byte 2 whose length passes its template's end; a template at byte 8 that is the fifth level; a template that WALK
  -- takes; the first of these with P1 03; and a field with a cut length at byte 2, behind one that is no keypair template
  pub inside : Example key.Keypair (0xA1 ∷ 0x03 ∷ 0x80 ∷ 0x05 ∷ 0x00 ∷ []) 2
  pub deep : Example key.Extended (0xA1 ∷ 0x08 ∷ 0xA1 ∷ 0x06 ∷ 0xA1 ∷ 0x04 ∷ 0xA1 ∷ 0x02 ∷ 0xA1 ∷ 0x00 ∷ []) 8
  pub empty : Example key.Keypair (0xA1 ∷ 0x00 ∷ []) 255
  pub asseed : Example key.Seed (0xA1 ∷ 0x03 ∷ 0x80 ∷ 0x05 ∷ 0x00 ∷ []) 255
  pub behind : Example key.Keypair (0x80 ∷ 0x00 ∷ 0x81 ∷ []) 2
