-- GENERATE MNEMONIC (RULES 6.22): its supply, its answer, which ENTROPY turns back into the supply, and its errors. Every length and room is in
-- bytes; n, which is P1, is the checksum's size in bits.
use Rattle.std.specs.Prelude.{ℕ, ◌*◌, ◌≤◌, ◌<◌, ◌≡◌, true, false, List, [], ◌∷◌, ◌++◌, ◌↔◌, length, take}
use Rattle.std.proofs.Math.Option.{some}
use Rattle.phrase_rules.specs.Numbers.{numbers_of}
use Rattle.phrase_rules.specs.Reverse.{reverse_refusal, reverse_bytes}
use Rattle.card.specs.declared.Card.{Card}
use Rattle.card.specs.State.{zeros}
use Rattle.card.specs.Sound.{is_sound}
use Rattle.rules.specs.Commands.{is_verified, has_key}
use Rattle.rules.specs.Channel.{session_of, with_mac}
use Rattle.rules.specs.Steps.{step1, data_of, is_initialised}
use Rattle.rules.specs.Engine.{ask_out, answer_out}
use Rattle.laws_exchange.specs.Exchange.{Typed, Turn, sealed_by, answered_by, unsealed_by}
use Rattle.laws_two_runs.specs.Runs.{Call}
use Rattle.claims.specs.Slots.{Supposed, Says, at}
use Rattle.claims.specs.TapRecord.{Fails}

-- ---- a turn of SEAL, ANSWER and UNSEAL with GENERATE MNEMONIC in stage 2: its header, 80 D2 P1 P2; nothing is supposed of PIN, tries and key
abbrev pub mnemonic_with : ℕ → ℕ → List ℕ
mnemonic_with p1 p2 = 0x80 ∷ 0xD2 ∷ p1 ∷ p2 ∷ []

pub record Sent (c : Card) (t : Turn) (p1 p2 : ℕ) : Type 0 where
  pub sound : is_sound c ≡ true
  pub typed : Typed c
  pub stage : c.channel.stage ≡ 2
  pub header : t.header ≡ mnemonic_with p1 p2

-- P1 is listed and P2 is 00, without data
pub record Asked (c : Card) (t : Turn) (n : ℕ) : Type 0 where
  pub sent : Sent c t n 0
  pub least : 4 ≤ n
  pub most : n ≤ 8
  pub nodata : t.data' ≡ []

abbrev pub command : Card → Turn → List ℕ
command c t = (sealed_by (session_of c.channel) t).bytes

-- how it ends with entropy of the right length: the terminal reads its numbers and 9000, nothing of the card has moved but the channel's IV, and
-- ENTROPY gives the supply for what the terminal read before the status word
pub record Generated (c : Card) (t : Turn) (n : ℕ) : Type 0 where
  pub answered : (answered_by c t).refusal ≡ 0
  pub accepted : (unsealed_by c t).refusal ≡ 0
  pub reads : (unsealed_by c t).bytes ≡ numbers_of t.supply ++ (0x90 ∷ 0x00 ∷ [])
  pub card : (answered_by c t).card ≡ with_mac c (unsealed_by c t).session.iv
  pub fault_offset : (answered_by c t).fault_offset ≡ 255
  pub taken : (room : ℕ) → 32 ≤ room → reverse_refusal (take (6 * n) (unsealed_by c t).bytes) room ≡ 0
  pub back : (room : ℕ) → 32 ≤ room → reverse_bytes (take (6 * n) (unsealed_by c t).bytes) room ≡ t.supply

-- ---- a command of class 80 that ends with this plain status word, on the card that step 1 leaves
pub record Stops (c : Card) (cmd s : List ℕ) (room : ℕ) (w : List ℕ) : Type 0 where
  pub says : Says (answer_out c cmd s room) w
  pub card : (answer_out c cmd s room).card ≡ step1 cmd c

-- ---- an example: from FRESH, calls lead to a card without a verified PIN and without a key, where 16 zeros give 12 numbers
pub record Example : Type 0 where
  pub calls : List Call
  pub turn : Turn
  pub asked : Asked (at calls) turn 4
  pub supply : turn.supply ≡ zeros 16
  pub unverified : is_verified (at calls).pins ≡ false
  pub keyless : has_key (at calls).keys ≡ false
  pub ends : Generated (at calls) turn 4

pub record Mnemonic : Type 0 where
  -- ASK says kind 10 and hands out nothing; ANSWER refuses with 3 exactly the supplies that have not 4 * n bytes
  pub asks : (c : Card) (t : Turn) (n room : ℕ) → Asked c t n → 255 ≤ room
      → ask_out c (command c t) room ≡ record { refusal = 0; kind = 10; bytes = [] }
  pub takes : (c : Card) (t : Turn) (n : ℕ) (s : List ℕ) (room : ℕ) → Asked c t n → 258 ≤ room
      → (answer_out c (command c t) s room).refusal ≡ 3 ↔ (length s ≡ 4 * n → ⊥)
  pub generates : (c : Card) (t : Turn) (n : ℕ) → Asked c t n → length t.supply ≡ 4 * n → Generated c t n
  -- 6A86 where P1 is not 04 to 08 or P2 is not 00, whatever the data; else 6A80 for data; both whatever the supply
  pub unlisted : (c : Card) (t : Turn) (p1 p2 : ℕ) → Sent c t p1 p2 → (4 ≤ p1 → p1 ≤ 8 → p2 ≡ 0 → ⊥) → Fails c t (0x6A ∷ 0x86 ∷ [])
  pub somedata : (c : Card) (t : Turn) (n : ℕ) → Sent c t n 0 → 4 ≤ n → n ≤ 8 → (t.data' ≡ [] → ⊥) → Fails c t (0x6A ∷ 0x80 ∷ [])
  -- without a channel in stage 2 it is plain 6985; before INIT it is unknown, as every instruction of class 80 but INIT: plain 6D00
  pub nochannel : (c : Card) (rest d s : List ℕ) (room : ℕ) → Supposed c (0x80 ∷ 0xD2 ∷ rest) d room → c.channel.stage < 2
      → Stops c (0x80 ∷ 0xD2 ∷ rest) s room (0x69 ∷ 0x85 ∷ [])
  pub beforeinit : (c : Card) (ins : ℕ) (rest d s : List ℕ) (room : ℕ) → is_sound c ≡ true → is_initialised c ≡ false → (ins ≡ 0xFE → ⊥)
      → data_of (0x80 ∷ ins ∷ rest) ≡ some d → 258 ≤ room → Stops c (0x80 ∷ ins ∷ rest) s room (0x6D ∷ 0x00 ∷ [])
  -- and this occurs
  pub twelve : Example
