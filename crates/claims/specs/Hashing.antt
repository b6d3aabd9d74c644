-- What the card hashes (RULES 6.8, 6.14): a pairing with a client that has the same pairing secret, and the key UID of LOAD. SHA-256 is
-- FIPS 180-4's, of whole bytes. Every length and room is in bytes.
use Rattle.std.specs.Prelude.{ℕ, ◌≤◌, ◌<◌, ◌≡◌, true, List, [], ◌∷◌, ◌++◌, ◌↔◌, ◌⊎◌, length, get_or, replicate}
use Rattle.sha_rules.specs.Hash.{sha256}
use Rattle.card.specs.declared.Card.{Card}
use Rattle.card.specs.State.{zeros, empty_path, with_pairing, with_keys, not_pending}
use Rattle.card.specs.Sound.{is_sound}
use Rattle.card.specs.Shape.{Shaped}
use Rattle.rules.specs.declared.KeyForm.{KeyForm}
use Rattle.rules.specs.declared.KeyForm.TheVariants as key
use Rattle.rules.specs.declared.Command.TheVariants as command
use Rattle.rules.specs.Commands.{is_verified, is_key_data}
use Rattle.rules.specs.Channel.{with_mac}
use Rattle.rules.specs.Steps.{goes, Arrived, arrival, is_initialised}
use Rattle.rules.specs.Engine.{ask_out, answer_out}
use Rattle.laws_exchange.specs.Exchange.{Typed, Turn, answered_by, unsealed_by}
use Rattle.laws_two_runs.specs.Runs.{Call}
use Rattle.claims.specs.Slots.{flag_at, pair_command, Says, Paired, at}

-- ---- a pairing
-- both steps, with 32 bytes of data: the client's challenge, the client's cryptogram
abbrev pub first_step : List ℕ → List ℕ
first_step x = pair_command 0 (32 ∷ x)

abbrev pub final_step : List ℕ → List ℕ
final_step x = pair_command 1 (32 ∷ x)

-- what the client computes: the hash of the pairing secret and 32 bytes after it
abbrev pub hashed : List ℕ → List ℕ → List ℕ
hashed secret x = sha256 (secret ++ x)

-- a card that can be paired by a client with this secret: it has the same, is sound and initialised, and has no channel and a free slot; and room
-- for ASK and ANSWER
pub record CanPair (c : Card) (secret : List ℕ) (room : ℕ) : Type 0 where
  pub shares : c.pairing.secret ≡ secret
  pub sound : is_sound c ≡ true
  pub initialised : is_initialised c ≡ true
  pub shaped : Shaped c
  pub closed : c.channel.stage ≡ 0
  pub slot : ℕ
  pub under : slot < 8
  pub free : flag_at c slot ≡ 0
  pub enough : 258 ≤ room

-- the card between the steps: it waits for the client's cryptogram of the challenge y that it sent
abbrev pub waiting : Card → List ℕ → List ℕ → Card
waiting c secret y = with_pairing c (record { secret = secret; slots = c.pairing.slots; pending = 1; expected = hashed secret y })

-- ASK names this kind of supply, and hands these data out
abbrev pub Asks : Card → List ℕ → ℕ → ℕ → List ℕ → Type 0
Asks c cmd room kind data' = ask_out c cmd room ≡ record { refusal = 0; kind = kind; bytes = data' }

-- the client sends the challenge x, the host supplies the card's challenge y and then the salt z. The first answer is the card's cryptogram of x,
-- then y. The client sends its cryptogram of y: the first free slot is filled with the hash of secret and salt, which the client computes too.
-- With any other 32 bytes the answer is 6982, whatever the supply, no slot is filled, and nothing is pending. ASK says kind 4 and kind 5, and any
-- supply that has not 32 bytes is refused with 3
pub record Pairing (c : Card) (secret x y z : List ℕ) (room : ℕ) : Type 0 where
  pub asksfirst : Asks c (first_step x) room 4 x
  pub takesfirst : (s : List ℕ) → (answer_out c (first_step x) s room).refusal ≡ 3 ↔ (length s ≡ 32 → ⊥)
  pub first : Says (answer_out c (first_step x) y room) (hashed secret x ++ (y ++ (0x90 ∷ 0x00 ∷ [])))
  pub waits : (answer_out c (first_step x) y room).card ≡ waiting c secret y
  pub asksfinal : Asks (waiting c secret y) (final_step (hashed secret y)) room 5 (hashed secret y)
  pub takesfinal : (s : List ℕ) → (answer_out (waiting c secret y) (final_step (hashed secret y)) s room).refusal ≡ 3 ↔ (length s ≡ 32 → ⊥)
  pub final : Paired (waiting c secret y) z (hashed secret z) (answer_out (waiting c secret y) (final_step (hashed secret y)) z room)
  pub wrong : (d s : List ℕ) → length d ≡ 32 → (d ≡ hashed secret y → ⊥)
      → Says (answer_out (waiting c secret y) (final_step d) s room) (0x69 ∷ 0x82 ∷ [])
      × ((answer_out (waiting c secret y) (final_step d) s room).card ≡ with_pairing c (not_pending c.pairing))

-- ---- LOAD that comes past its checks, whatever its P1: the PIN is verified, and the data have the form that P1 names
pub record Loading (c : Card) (cmd : List ℕ) : Type 0 where
  pub arrived : Arrived
  pub form : KeyForm
  pub there : arrival c cmd ≡ goes arrived
  pub asks : arrived.command ≡ command.Load form
  pub verified : is_verified arrived.card.pins ≡ true
  pub formed : is_key_data form arrived.data' ≡ true

-- a turn of SEAL, ANSWER and UNSEAL with LOAD: its header, 80 D0 P1 00
abbrev pub p1_byte : KeyForm → ℕ
p1_byte key.Keypair = 0x01
p1_byte key.Extended = 0x02
p1_byte key.Seed = 0x03

abbrev pub load_header : KeyForm → List ℕ
load_header form = 0x80 ∷ 0xD0 ∷ p1_byte form ∷ 0x00 ∷ []

-- the kind of the card's key after it: 1, or 2 for an extended one
abbrev pub key_kind : KeyForm → ℕ
key_kind key.Keypair = 1
key_kind key.Extended = 2
key_kind key.Seed = 2

-- how it ends where the key is taken: the answer is the hash of the supplied public key, and that is the key UID; nothing else of the card has moved
-- but its paths, which are empty, and the channel's IV
pub record Loaded (c : Card) (t : Turn) (form : KeyForm) (public : List ℕ) : Type 0 where
  pub answered : (answered_by c t).refusal ≡ 0
  pub accepted : (unsealed_by c t).refusal ≡ 0
  pub reads : (unsealed_by c t).bytes ≡ sha256 public ++ (0x90 ∷ 0x00 ∷ [])
  pub card : (answered_by c t).card
      ≡ with_mac (with_keys c (record { kind = key_kind form; uid = sha256 public; current = empty_path; pinless = empty_path })) (unsealed_by c t).session.iv
  pub fault_offset : (answered_by c t).fault_offset ≡ 255

-- ---- examples, from FRESH: a card that can be paired, with a secret of zeros and three other values of 32 bytes; and one that takes a keypair
-- template whose public key is not the supplied one
pub record PairExample : Type 0 where
  pub calls : List Call
  pub can : CanPair (at calls) (zeros 32) 258
  pub pairs : Pairing (at calls) (zeros 32) (replicate 32 0x01) (replicate 32 0x02) (replicate 32 0x03) 258

abbrev pub own_key : List ℕ
own_key = replicate 65 0x22

abbrev pub supplied_key : List ℕ
supplied_key = replicate 65 0x33

pub record LoadExample : Type 0 where
  pub calls : List Call
  pub turn : Turn
  pub header : turn.header ≡ load_header key.Keypair
  pub template : turn.data' ≡ 0xA1 ∷ 0x65 ∷ 0x80 ∷ 0x41 ∷ (own_key ++ (0x81 ∷ 0x20 ∷ zeros 32))
  pub supply : turn.supply ≡ 0x01 ∷ supplied_key
  pub loaded : Loaded (at calls) turn key.Keypair supplied_key

pub record Hashing : Type 0 where
  -- a pairing, whatever the challenges and the salt
  pub pairing : (c : Card) (secret x y z : List ℕ) (room : ℕ) → CanPair c secret room → length x ≡ 32 → length y ≡ 32 → length z ≡ 32
      → Pairing c secret x y z room
  -- LOAD past its checks: ASK says kind 6 and hands out the data; refusal 3 is given exactly where the supply has not 66 bytes, with flag 00 too, or
  -- its first is neither 00 nor 01
  pub asksload : (c : Card) (cmd : List ℕ) (room : ℕ) → is_sound c ≡ true → 255 ≤ room → (x : Loading c cmd)
      → Asks c cmd room 6 x.arrived.data'
  pub takesload : (c : Card) (cmd s : List ℕ) (room : ℕ) → is_sound c ≡ true → 258 ≤ room → Loading c cmd
      → (answer_out c cmd s room).refusal ≡ 3 ↔ ((length s ≡ 66 → ⊥) ⊎ (1 < get_or s 0 0))
  -- LOAD with a verified PIN, data of the form that P1 names, and flag 01 with 65 bytes as the supply, whatever public key a template holds
  pub loads : (c : Card) (t : Turn) (form : KeyForm) (public : List ℕ) → is_sound c ≡ true → Typed c → t.header ≡ load_header form
      → is_verified c.pins ≡ true → is_key_data form t.data' ≡ true → t.supply ≡ 0x01 ∷ public → length public ≡ 65 → Loaded c t form public
  -- and these occur
  pub pairs : PairExample
  pub load : LoadExample
