-- What the rows to settle (RULES 11.4) suppose is met, so that no row is empty: INIT that says 9000 is the call that the status row starts
-- from, four entries can be sealed for every card in stage 2, and from FRESH a terminal comes to read the status row. Four entries hold the three
-- and the one that the rows before suppose. Every length is in bytes.
use Rattle.std.specs.Prelude.{ℕ, ◌≤◌, ◌≡◌, true, false, List, [], ◌∷◌, length}
use Rattle.octets.specs.Bytes.{Bytes}
use Rattle.card.specs.declared.Card.{Card}
use Rattle.card.specs.State.{zeros, fresh_of}
use Rattle.card.specs.Sound.{is_sound}
use Rattle.rules.specs.Steps.{cla_of, ins_of, is_initialised}
use Rattle.rules.specs.Engine.{answer_out}
use Rattle.laws_exchange.specs.Exchange.{Typed, Turn, unsealed_by}
use Rattle.laws_two_runs.specs.Runs.{Call, end_of}
use Rattle.claims.specs.Rows.{RightThen, Initialises, initialised, InChannel}

-- INIT on FRESH, calls that open the channel, and a turn of SEAL, ANSWER and UNSEAL that reads the status
pub record StatusRead (fresh : Card) : Type 0 where
  pub init : Initialises fresh
  pub calls : List Call
  pub channel : InChannel (initialised fresh init) (end_of fresh calls)
  pub turn : Turn
  pub header : turn.header ≡ 0x80 ∷ 0xF2 ∷ 0 ∷ 0 ∷ []
  pub reads : (unsealed_by (end_of fresh calls) turn).bytes
      ≡ 0xA3 ∷ 0x09 ∷ 0x02 ∷ 0x01 ∷ 0x03 ∷ 0x02 ∷ 0x01 ∷ 0x05 ∷ 0x01 ∷ 0x01 ∷ 0x00 ∷ 0x90 ∷ 0x00 ∷ []

pub record RowsMet : Type 0 where
  pub init : (c : Card) (cmd supply : List ℕ) (room : ℕ) → is_sound c ≡ true → is_initialised c ≡ false
      → cla_of cmd ≡ 0x80 → ins_of cmd ≡ 0xFE → (answer_out c cmd supply room).bytes ≡ 0x90 ∷ 0x00 ∷ []
      → is_initialised (answer_out c cmd supply room).card ≡ true
  pub entries : (c : Card) (e : List ℕ) → is_sound c ≡ true → Typed c → c.channel.stage ≡ 2 → c.pins.pin_tries ≡ 3
      → Bytes e → length e ≤ 223 → (e ≡ c.pins.pin → ⊥) → RightThen c
  pub status : StatusRead (fresh_of (zeros 16) (zeros 65))
