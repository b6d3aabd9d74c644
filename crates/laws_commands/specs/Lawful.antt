-- What the theorems about the engine need of a command's rule, and of an instruction's row: nothing else about a single command is used above.
-- Each command's proof of it is in proofs/ChannelCommands, PinCommands or KeyCommands, and proofs/Table has one line an instruction.
-- Every length is in bytes.
use Rattle.std.specs.Prelude.{◌≡◌, Bool, true, false, List, [], ◌∷◌, ℕ, ◌≤◌, ◌<◌, length, Ok}
use Rattle.std.proofs.Math.Option.{Option, none, some}
use Rattle.octets.specs.Bytes.{Bytes}
use Rattle.card.specs.declared.Pins.{Pins}
use Rattle.card.specs.declared.Card.{Card}
use Rattle.card.specs.State.{with_secrets}
use Rattle.card.specs.Sound.{is_sound}
use Rattle.card.specs.Shape.{Shaped}
use Rattle.rules.specs.declared.Instruction.{Instruction}
use Rattle.rules.specs.declared.Command.{Command}
use Rattle.rules.specs.Words.{Check, Hold, Reply}
use Rattle.rules.specs.Supplies.{suits, flag_of}
use Rattle.rules.specs.Rules.{Secret}
use Rattle.rules.specs.Commands.{is_verified, rule_of}
use Rattle.rules.specs.Rows.{row_of, offered, is_plain}
use Rattle.rules.specs.Channel.{Outgoing}
use Rattle.rules.specs.Steps.{name_of, is_initialised, in_stage, begun, failed, checks_of, supply_of, reply_of}
use Rattle.laws_commands.specs.Verified.{verified_if}

-- ---- a card that is sound, and has its shape where the card g has it
pub record Fit (g c : Card) : Type 0 where
  pub sound : is_sound c ≡ true
  pub shaped : Shaped g → Shaped c

-- ---- what steps 1 to 4 have established where a command of this instruction comes to its own checks, on the card that it is given there
pub record Ready (i : Instruction) (c : Card) : Type 0 where
  pub offer : offered (row_of i).offer (is_initialised c) ≡ true
  pub pending : ((row_of i).byte ≡ 0x12 → ⊥) → c.pairing.pending ≡ 0
  pub half : ((row_of i).byte ≡ 0x11 → ⊥) → c.channel.stage ≡ 1 → ⊥
  pub stage : is_plain i ≡ false → in_stage i c.channel.stage ≡ true

-- ---- without PIN and PUK
abbrev pub erase : Card → Card
erase c = with_secrets [] [] c

abbrev pub erase_reply : Reply → Reply
erase_reply r = record { status = r.status; response = r.response; card = erase r.card }

abbrev pub erase_out : Outgoing → Outgoing
erase_out t = record { bytes = t.bytes; card = erase t.card }

-- ---- verification after a reply that leaves the channel in stage 2
abbrev pub Verifies : Option Secret → Bool → Card → Reply → Type 0
Verifies o right c r = r.card.channel.stage ≡ 2
    → (c.channel.stage ≡ 0 → ⊥) × (is_verified r.card.pins ≡ verified_if o right (is_verified c.pins))

-- ---- the status word of each check is below a number
abbrev pub Below : ℕ → List Check → Type 0
Below n [] = Unit {0}
Below n (k ∷ more) = (k.otherwise < n) × Below n more

-- ---- a command over the channel
-- the tries of a sound card
pub record Tries (p : Pins) : Type 0 where
  pub pin : p.pin_tries ≤ 3
  pub puk : p.puk_tries ≤ 5

-- a reply whose status word is two bytes and whose response data are bytes
pub record Plain (r : Reply) : Type 0 where
  pub status : r.status < 65536
  pub response : Bytes r.response

pub record Over (k : Command) : Type 0 where
  -- in stage 2 it does not change the channel
  pub channel : (c : Card) (d s : List ℕ) → c.channel.stage ≡ 2 → Hold (checks_of k c d) → (reply_of k c d s).card.channel ≡ c.channel
  -- what it answers is bytes, and so are the status words of its checks
  pub texts : (c : Card) (d s : List ℕ) → Tries c.pins → Bytes c.keys.current.bytes → Bytes s → Plain (reply_of k c d s)
  pub words : (c : Card) (d : List ℕ) → Below 65536 (checks_of k c d)
  -- the current path stays bytes
  pub path : (c : Card) (d s : List ℕ) → Bytes d → Bytes c.keys.current.bytes → Bytes (reply_of k c d s).card.keys.current.bytes

-- ---- a card that is initialised has full tries and no key
pub record Full (n : Card) : Type 0 where
  pub pin : n.pins.pin_tries ≡ 3
  pub puk : n.pins.puk_tries ≡ 5
  pub key : n.keys.kind ≡ 0

abbrev pub Filled : Card → Type 0
Filled n = is_initialised n ≡ true → Full n

-- ---- a command that this instruction lists
pub record Lawful (i : Instruction) (k : Command) : Type 0 where
  -- from a sound card, where the checks hold and the supply has the form, the reply's card is sound, and has its shape where g has it
  pub keeps : (g c : Card) (d s : List ℕ) → Fit g c → Ready i c → Hold (checks_of k (begun (row_of i).loss c) d)
      → suits (supply_of k) s ≡ true → Fit g (reply_of k (begun (row_of i).loss c) d s).card
  -- the response data are at most 221 bytes, so that with the status word they can be sealed
  pub short : (c : Card) (d s : List ℕ) → Shaped c → length (reply_of k c d s).response ≤ 221
  -- where no supply is read, the reply does not depend on it; after flag 00 it does not depend on the rest
  pub unread : (c : Card) (d s t : List ℕ) → (supply_of k).kind ≡ 0 → reply_of k c d s ≡ reply_of k c d t
  pub unflagged : (c : Card) (d s t : List ℕ) → (supply_of k).flagged ≡ true → flag_of s ≡ 0 → flag_of t ≡ 0 → reply_of k c d s ≡ reply_of k c d t
  -- neither the checks nor the reply look at PIN and PUK, but for how the comparison came out
  pub checksblind : (p q : List ℕ) (c : Card) (d : List ℕ) → checks_of k c d ≡ checks_of k (with_secrets p q c) d
  pub replyblind : (p q : List ℕ) (right : Bool) (c : Card) (d s : List ℕ)
      → erase_reply ((rule_of k).reply right c d s) ≡ erase_reply ((rule_of k).reply right (with_secrets p q c) d s)
  -- a command that compares needs stage 2
  pub compares : (x : Secret) → (rule_of k).compares ≡ some x → (row_of i).stage ≡ 2
  -- where it leaves the channel in stage 2, the channel was open, and the PIN is verified as the comparison left it, or as it was
  pub verifies : (right : Bool) (c : Card) (d s : List ℕ) → is_sound c ≡ true → offered (row_of i).offer (is_initialised c) ≡ true
      → Hold (checks_of k c d) → Verifies (rule_of k).compares right c ((rule_of k).reply right c d s)
  pub over : is_plain i ≡ false → Over k
  -- on a card before INIT, without a key
  pub fresh : offered (row_of i).offer false ≡ true → (c : Card) → is_initialised c ≡ false → c.keys.kind ≡ 0 → (d s : List ℕ)
      → Filled (reply_of k c d s).card

-- ---- an instruction: if it goes over the channel, an initialised card knows it by its byte, it begins with the card as it is, and an error in
-- stage 2 leaves the card as it is; stage 2 is right for it, and each command that it lists is lawful
abbrev pub Each : (Command → Type 0) → Option Command → Type 0
Each P none = Unit {0}
Each P (some k) = P k

pub record LawfulRow (i : Instruction) : Type 0 where
  pub known : is_plain i ≡ false → name_of true 0x80 (row_of i).byte ≡ Ok i
  pub begins : is_plain i ≡ false → (c : Card) → begun (row_of i).loss c ≡ c
  pub fails : is_plain i ≡ false → (p1 : ℕ) (c : Card) → c.channel.stage ≡ 2 → failed (row_of i).loss p1 c ≡ c
  pub stage : in_stage i 2 ≡ true
  pub lists : (p1 p2 : ℕ) → Each (Lawful i) ((row_of i).lists p1 p2)
