-- EXPORT (RULES 6.19): a private key goes out of EIP-1581's node and of the paths below it alone, and there it does; and what an EXPORT changes in
-- the card. Every length and room is in bytes.
use Rattle.std.specs.Prelude.{ℕ, ◌≡◌, true, List, [], ◌∷◌, ◌++◌, length, take}
use Rattle.card.specs.declared.Card.{Card}
use Rattle.card.specs.State.{zeros, fresh_of, with_keys, path_bytes, path_of}
use Rattle.card.specs.Sound.{is_sound}
use Rattle.rules.specs.declared.ExportPath.{ExportPath}
use Rattle.rules.specs.declared.ExportPath.TheVariants as export_path
use Rattle.rules.specs.declared.ExportPart.{ExportPart}
use Rattle.rules.specs.declared.ExportPart.TheVariants as export_part
use Rattle.rules.specs.declared.Command.TheVariants as command
use Rattle.rules.specs.Words.{success, word, Hold}
use Rattle.rules.specs.Supplies.{export_supply, suits}
use Rattle.rules.specs.Commands.{is_verified, is_export_data, with_current, export_checks, exported_keys}
use Rattle.rules.specs.Channel.{with_mac}
use Rattle.rules.specs.Steps.{goes, Arrived, arrival}
use Rattle.rules.specs.Engine.{answer_out}
use Rattle.laws_exchange.specs.Exchange.{Typed, Turn, answered_by, unsealed_by}
use Rattle.laws_two_runs.specs.Runs.{Call, end_of}

-- ---- EIP-1581's node, 8000002B 8000003C 8000062D: a path that begins so is that node, where nothing follows, or below it
abbrev pub chat_node : List ℕ
chat_node = 0x80 ∷ 0x00 ∷ 0x00 ∷ 0x2B ∷ 0x80 ∷ 0x00 ∷ 0x00 ∷ 0x3C ∷ 0x80 ∷ 0x00 ∷ 0x06 ∷ 0x2D ∷ []

abbrev pub Begins : List ℕ → Type 0
Begins path = (rest : List ℕ) × (path ≡ chat_node ++ rest)

-- the path whose keys are asked for: the current one for P1 00, the given one for 01 and 02. It is said here a second time, apart from the rule
abbrev pub asked_path : ExportPath → Card → List ℕ → List ℕ
asked_path export_path.Current c d = path_bytes c.keys.current
asked_path export_path.Given c d = d
asked_path export_path.MakeCurrent c d = d

-- ---- a command that lets a private key out: it opens as EXPORT with P2 00, the PIN is verified, the key is extended, and the path begins so
pub record LetsOut (c : Card) (cmd : List ℕ) : Type 0 where
  pub arrived : Arrived
  pub which : ExportPath
  pub opens : arrival c cmd ≡ goes arrived
  pub asks : arrived.command ≡ command.Export which export_part.PrivateAndPublic
  pub verified : is_verified c.pins ≡ true
  pub extended : c.keys.kind ≡ 2
  pub path : Begins (asked_path which c arrived.data')

-- ---- a turn of SEAL, ANSWER and UNSEAL with an EXPORT: its header, 80 C2 P1 P2
abbrev pub p1_byte : ExportPath → ℕ
p1_byte export_path.Current = 0x00
p1_byte export_path.Given = 0x01
p1_byte export_path.MakeCurrent = 0x02

abbrev pub p2_byte : ExportPart → ℕ
p2_byte export_part.PrivateAndPublic = 0x00
p2_byte export_part.PublicOnly = 0x01

abbrev pub export_header : ExportPath → ExportPart → List ℕ
export_header which what = 0x80 ∷ 0xC2 ∷ p1_byte which ∷ p2_byte what ∷ []

-- what is supposed where the private key is to go out: a sound card that lets it, data of the right form, and a supply with flag 01
pub record Supposed (c : Card) (t : Turn) (which : ExportPath) (public private : List ℕ) : Type 0 where
  pub sound : is_sound c ≡ true
  pub typed : Typed c
  pub header : t.header ≡ export_header which export_part.PrivateAndPublic
  pub form : is_export_data which t.data' ≡ true
  pub supply : t.supply ≡ 0x01 ∷ (public ++ private)
  pub public65 : length public ≡ 65
  pub private32 : length private ≡ 32
  pub verified : is_verified c.pins ≡ true
  pub extended : c.keys.kind ≡ 2
  pub path : Begins (asked_path which c t.data')

-- ---- the card that an EXPORT with 9000 leaves, but for the channel's IV: with P1 02 the given path is current
abbrev pub card_after : ExportPath → Card → List ℕ → Card
card_after export_path.Current c d = c
card_after export_path.Given c d = c
card_after export_path.MakeCurrent c d = with_keys c (with_current c.keys (path_of d))

-- ---- how an EXPORT that opens ends. With 9000 and the keys: the given path is current after P1 02, and nothing else of the card has moved but the
-- channel's IV. With another status word and no data: nothing has moved but the IV
pub data Ended (c : Card) (t : Turn) (which : ExportPath) (what : ExportPart) : Type 0 where
  exported : (unsealed_by c t).bytes ≡ exported_keys what t.supply ++ word success
      → (answered_by c t).card ≡ with_mac (card_after which c t.data') (unsealed_by c t).session.iv
      → Ended c t which what
  failed : (w : ℕ) → (w ≡ success → ⊥) → (unsealed_by c t).bytes ≡ word w → (answered_by c t).card ≡ with_mac c (unsealed_by c t).session.iv
      → Ended c t which what

-- ---- an example: from FRESH a list of calls leads to a card where a terminal reads this answer to an EXPORT with these data and a supply of flag 01
-- and zeros
pub record Reads (which : ExportPath) (what : ExportPart) (data' answer : List ℕ) : Type 0 where
  pub calls : List Call
  pub turn : Turn
  pub header : turn.header ≡ export_header which what
  pub given : turn.data' ≡ data'
  pub supply : turn.supply ≡ 0x01 ∷ zeros 97
  pub answers : (unsealed_by (end_of (fresh_of (zeros 16) (zeros 65)) calls) turn).bytes ≡ answer

-- a path beside the node: the third component without its top bit, 0000062D
abbrev pub beside_node : List ℕ
beside_node = 0x80 ∷ 0x00 ∷ 0x00 ∷ 0x2B ∷ 0x80 ∷ 0x00 ∷ 0x00 ∷ 0x3C ∷ 0x00 ∷ 0x00 ∷ 0x06 ∷ 0x2D ∷ []

pub record Export : Type 0 where
  -- elsewhere a private key does not go out: whatever the card, the command and the room, two supplies of 98 bytes that differ in the last 32
  -- alone get the same refusal, the same card and the same bytes, unless the command lets a private key out
  pub elsewhere : (c : Card) (cmd s t : List ℕ) (room : ℕ) → length s ≡ 98 → length t ≡ 98 → take 66 s ≡ take 66 t
      → (LetsOut c cmd → ⊥) → answer_out c cmd s room ≡ answer_out c cmd t room
  -- there it does: what UNSEAL gives is A1 65 80 41 public 81 20 private 9000, both as supplied
  pub there : (c : Card) (t : Turn) (which : ExportPath) (public private : List ℕ) → Supposed c t which public private
      → ((answered_by c t).refusal ≡ 0) × ((unsealed_by c t).refusal ≡ 0)
      × ((unsealed_by c t).bytes ≡ 0xA1 ∷ 0x65 ∷ 0x80 ∷ 0x41 ∷ (public ++ (0x81 ∷ 0x20 ∷ (private ++ (0x90 ∷ 0x00 ∷ [])))))
  -- every EXPORT that opens on a sound card in stage 2, with a supply of the form where one is read, ends in one of the two ways
  pub moves : (c : Card) (t : Turn) (which : ExportPath) (what : ExportPart) → is_sound c ≡ true → Typed c → c.channel.stage ≡ 2
      → t.header ≡ export_header which what
      → (Hold (export_checks c.pins c.keys which what t.data') → suits export_supply t.supply ≡ true)
      → Ended c t which what
  -- and these occur: the keys of the node; the public key alone beside it; and 6985 for the private key there
  pub node : Reads export_path.Given export_part.PrivateAndPublic chat_node
      (0xA1 ∷ 0x65 ∷ 0x80 ∷ 0x41 ∷ (zeros 65 ++ (0x81 ∷ 0x20 ∷ (zeros 32 ++ (0x90 ∷ 0x00 ∷ [])))))
  pub besidepublic : Reads export_path.MakeCurrent export_part.PublicOnly beside_node (0xA1 ∷ 0x43 ∷ 0x80 ∷ 0x41 ∷ (zeros 65 ++ (0x90 ∷ 0x00 ∷ [])))
  pub beside : Reads export_path.Given export_part.PrivateAndPublic beside_node (0x69 ∷ 0x85 ∷ [])
