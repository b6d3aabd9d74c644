-- Rows to settle (RULES 11.4): one table, each row a field of one claim about the defining rules. Byte values are hex; every length and room
-- is in bytes.
use Rattle.std.specs.Prelude.{ℕ, ◌≤◌, ◌≡◌, true, false, List, [], ◌∷◌, ◌++◌, length, take}
use Rattle.std.proofs.Math.Option.{none}
use Rattle.aes_padding.specs.Padding.{pad, unpad}
use Rattle.channel_rules.specs.Message.{with_iv}
use Rattle.channel_rules.specs.Terminal.{sealed_response}
use Rattle.template_rules.specs.Template.{field}
use Rattle.template_walk.specs.Walk.{WALK}
use Rattle.card.specs.declared.Card.{Card}
use Rattle.card.specs.State.{zeros}
use Rattle.card.specs.Sound.{is_sound}
use Rattle.rules.specs.declared.StatusKind.TheVariants as status
use Rattle.rules.specs.declared.Command.TheVariants as command
use Rattle.rules.specs.Channel.{session_of}
use Rattle.rules.specs.Steps.{is_initialised, reply_of}
use Rattle.rules.specs.Engine.{answer_out}
use Rattle.laws_exchange.specs.Opens.{Opens}

-- ---- a call of ANSWER with a command over the channel that opens on this card and comes to its checks; any supply, and room enough
pub record Sent (c : Card) : Type 0 where
  pub bytes : List ℕ
  pub supply : List ℕ
  pub room : ℕ
  pub enough : 258 ≤ room
  pub opens : Opens c bytes

-- the card that the call leaves
abbrev pub next : (c : Card) → Sent c → Card
next c v = (answer_out c v.bytes v.supply v.room).card

-- the answer is not refused, and is this plain text sealed under the card's session, its IV the MAC of the command
pub record Gives (c : Card) (v : Sent c) (plain : List ℕ) : Type 0 where
  pub taken : (answer_out c v.bytes v.supply v.room).refusal ≡ 0
  pub answer : (answer_out c v.bytes v.supply v.room).bytes
      ≡ sealed_response (with_iv (session_of c.channel) (take 16 v.opens.field)) plain

-- ---- a VERIFY with this entry, on this card
pub record Entry (c : Card) : Type 0 where
  pub sent : Sent c
  pub verify : sent.opens.arrived.command ≡ command.Verify

abbrev pub entered : (c : Card) → Entry c → List ℕ
entered c v = v.sent.opens.arrived.data'

abbrev pub after : (c : Card) → Entry c → Card
after c v = next c v.sent

-- a sound card in stage 2 with three tries, and one entry that is not its PIN
pub record OneWrong (c : Card) : Type 0 where
  pub sound : is_sound c ≡ true
  pub stage : c.channel.stage ≡ 2
  pub tries : c.pins.pin_tries ≡ 3
  pub first : Entry c
  pub wrong1 : entered c first ≡ c.pins.pin → ⊥

-- such an entry, and two more. Each is sent to the card that ANSWER to the one before leaves
pub record ThreeWrong (c : Card) : Type 0 where
  pub one : OneWrong c
  pub second : Entry (after c one.first)
  pub third : Entry (after (after c one.first) second)
  pub wrong2 : entered (after c one.first) second ≡ c.pins.pin → ⊥
  pub wrong3 : entered (after (after c one.first) second) third ≡ c.pins.pin → ⊥

-- the card that three of them leave
abbrev pub spent : (c : Card) → ThreeWrong c → Card
spent c x = after (after (after c x.one.first) x.second) x.third

-- three that are not its PIN, and then its PIN
pub record RightThen (c : Card) : Type 0 where
  pub three : ThreeWrong c
  pub fourth : Entry (spent c three)
  pub right : entered (spent c three) fourth ≡ c.pins.pin

-- ---- INIT: a call that makes an initialised card of a sound one that was not
pub record Initialises (c : Card) : Type 0 where
  pub sound : is_sound c ≡ true
  pub fresh : is_initialised c ≡ false
  pub bytes : List ℕ
  pub supply : List ℕ
  pub room : ℕ
  pub done : is_initialised (answer_out c bytes supply room).card ≡ true

abbrev pub initialised : (c : Card) → Initialises c → Card
initialised c i = (answer_out c i.bytes i.supply i.room).card

-- a sound card in stage 2 with the tries and the kind of key of another
pub record InChannel (before c : Card) : Type 0 where
  pub sound : is_sound c ≡ true
  pub stage : c.channel.stage ≡ 2
  pub pintries : c.pins.pin_tries ≡ before.pins.pin_tries
  pub puktries : c.pins.puk_tries ≡ before.pins.puk_tries
  pub kind : c.keys.kind ≡ before.keys.kind

-- ---- the supply of SIGN: public key 65, r and s of 32 bytes each, high byte first
abbrev pub number32 : ℕ → List ℕ
number32 n = zeros 31 ++ (n ∷ [])

-- ---- the table
pub record Rows : Type 0 where
  -- pad of nothing; of 16 bytes; sixteen zeros do not unpad
  pub padnothing : pad [] ≡ 0x80 ∷ zeros 15
  pub padblock : (s : List ℕ) → length s ≡ 16 → length (pad s) ≡ 32
  pub unpadzeros : unpad (zeros 16) ≡ none
  -- first wrong PIN; third wrong PIN; right PIN then
  pub firstwrong : (c : Card) (x : OneWrong c) → Gives c x.first.sent (0x63 ∷ 0xC2 ∷ [])
  pub thirdwrong : (c : Card) (x : ThreeWrong c)
      → Gives (after (after c x.one.first) x.second) x.third.sent (0x63 ∷ 0xC0 ∷ [])
  pub rightthen : (c : Card) (x : RightThen c) → Gives (spent c x.three) x.fourth.sent (0x63 ∷ 0xC0 ∷ [])
  -- 80 F2 00 00 on an initialised card in stage 0, plain
  pub barestatus : (c : Card) (supply : List ℕ) (room : ℕ) → is_sound c ≡ true → is_initialised c ≡ true → c.channel.stage ≡ 0 → 258 ≤ room
      → ((answer_out c (0x80 ∷ 0xF2 ∷ 0 ∷ 0 ∷ []) supply room).refusal ≡ 0)
      × ((answer_out c (0x80 ∷ 0xF2 ∷ 0 ∷ 0 ∷ []) supply room).bytes ≡ 0x69 ∷ 0x85 ∷ [])
  -- GET STATUS after INIT: on INIT's own next card, and over the channel that is opened later
  pub statusrule : (c : Card) (i : Initialises c) (d s : List ℕ)
      → (reply_of (command.Status status.Application) (initialised c i) d s).response
      ≡ 0xA3 ∷ 0x09 ∷ 0x02 ∷ 0x01 ∷ 0x03 ∷ 0x02 ∷ 0x01 ∷ 0x05 ∷ 0x01 ∷ 0x01 ∷ 0x00 ∷ []
  pub statussent : (c : Card) (i : Initialises c) (o : Card) → InChannel (initialised c i) o → (q : Sent o)
      → q.opens.arrived.command ≡ command.Status status.Application
      → Gives o q (0xA3 ∷ 0x09 ∷ 0x02 ∷ 0x01 ∷ 0x03 ∷ 0x02 ∷ 0x01 ∷ 0x05 ∷ 0x01 ∷ 0x01 ∷ 0x00 ∷ 0x90 ∷ 0x00 ∷ [])
  -- r = 128 and s = 1, in what SIGN answers
  pub signed : (c : Card) (d key : List ℕ) → length key ≡ 65
      → (reply_of command.Sign c d (key ++ number32 128 ++ number32 1)).response
      ≡ field 0xA0 (field 0x80 key ++ (0x30 ∷ 0x07 ∷ 0x02 ∷ 0x02 ∷ 0x00 ∷ 0x80 ∷ 0x02 ∷ 0x01 ∷ 0x01 ∷ []))
  -- WALK of A1 00, and of 80 81 05
  pub walkempty : WALK (0xA1 ∷ 0x00 ∷ []) ≡ record { refusal = 0; count = 0; offset = 0 }
  pub walkmalformed : WALK (0x80 ∷ 0x81 ∷ 0x05 ∷ []) ≡ record { refusal = 4; count = 0; offset = 0 }
