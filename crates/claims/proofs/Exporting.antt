-- A turn with an EXPORT: the law of sealed turns, with the reply of the rule in it; and turns on a card that a list of calls reaches.
-- Assumes nothing.
use Rattle.std.specs.Prelude.{Ok}
use mathlib.Core.Path.{◌≡◌, refl, ap, ap₂, ◌∙◌}
use mathlib.Core.Bool.{true, false}
use mathlib.Core.List.{List, [], ◌∷◌, ◌++◌, append_assoc}
use mathlib.Core.Option.{some}
use Prim.Native.Nat.{ℕ, ◌≤◌, ◌<◌}
use native.Mathlib.Omega.{arith}
use borrow.Author.Tests.{lt-ltb, eqb-true, not-true}
use lib.Dec.{eqb}
use lib.ListN.{length, take, length-append}
use lib.Seq.{take_at, drop_at, take_all}
use Rattle.octets.specs.Bytes.{Bytes}
use Rattle.octets.proofs.Lists.{bytes-replicate}
use Rattle.template_rules.specs.Template.{field}
use Rattle.template_rules.proofs.HeadFacts.{by-test}
use Rattle.template_answers.specs.Answers.{exported_pair}
use Rattle.card.specs.declared.Card.{Card}
use Rattle.card.specs.State.{zeros, with_keys}
use Rattle.card.specs.Slots.{is_zero}
use Rattle.card.specs.Sound.{is_sound}
use Rattle.card.proofs.Tests.{the_second}
use Rattle.card.proofs.SoundFacts.{verified-stage}
use Rattle.rules.specs.declared.Instruction.TheVariants as ins
use Rattle.rules.specs.declared.ExportPath.{ExportPath}
use Rattle.rules.specs.declared.ExportPath.TheVariants as export_path
use Rattle.rules.specs.declared.ExportPart.{ExportPart}
use Rattle.rules.specs.declared.ExportPart.TheVariants as export_part
use Rattle.rules.specs.declared.Command.{Command}
use Rattle.rules.specs.declared.Command.TheVariants as command
use Rattle.rules.specs.Results.{Verdict}
use Rattle.rules.specs.Words.{success, word, Hold, Reply}
use Rattle.rules.specs.Supplies.{export_supply, suits, says_yes, export_public, export_private}
use Rattle.rules.specs.Commands.{in_eip1581, export_checks, keys_after_export, export_reply, key_with, rule_of}
use Rattle.rules.specs.Rows.{row_of, is_plain}
use Rattle.rules.specs.Channel.{with_mac, plain_text}
use Rattle.rules.specs.Steps.{cla_of, ins_of, p1_of, p2_of, name_of, is_initialised, checks_of}
use Rattle.laws_commands.proofs.Checks.{by-verdict-below, held}
use Rattle.sha_rules.proofs.Blocks.{length-sha256}
use Rattle.laws_exchange.specs.Opens.{outcome_by, outcome, fault_of}
use Rattle.laws_exchange.specs.Exchange.{Typed, Turn, answered_by, unsealed_by, Names, listed, opened, Exchange, InStage2}
use Rattle.laws_exchange.proofs.Exchanges.{known, staged, listed2}
use Rattle.laws_allowance.proofs.Reached.{typed}
use Rattle.laws_two_runs.proofs.Reached.{in_channel, key_hash, kind2-reached, reached-sound}
use Rattle.claims.specs.Export.{chat_node, asked_path, p1_byte, p2_byte, export_header, Supposed, card_after, Ended, exported, failed, Reads, beside_node}
use Rattle.claims.proofs.Elsewhere.{asked_is, begun-so}

-- ---- the command that the header names
abbrev Asked : ExportPath → ExportPart → Command
Asked which what = command.Export which what

export-listed : (which : ExportPath) (what : ExportPart) → (row_of ins.Export).lists (p1_byte which) (p2_byte what) ≡ some (Asked which what)
export-listed export_path.Current export_part.PrivateAndPublic = refl
export-listed export_path.Given export_part.PrivateAndPublic = refl
export-listed export_path.MakeCurrent export_part.PrivateAndPublic = refl
export-listed export_path.Current export_part.PublicOnly = refl
export-listed export_path.Given export_part.PublicOnly = refl
export-listed export_path.MakeCurrent export_part.PublicOnly = refl

-- the card of the rule's reply is the one said of it
after_is : (which : ExportPath) (c : Card) (d : List ℕ) → with_keys c (keys_after_export which c.keys d) ≡ card_after which c d
after_is export_path.Current c d = refl
after_is export_path.Given c d = refl
after_is export_path.MakeCurrent c d = refl

export-sealed : is_plain ins.Export ≡ false
export-sealed = refl

module _ (c : Card) (t : Turn) (which : ExportPath) (what : ExportPart) (sound : is_sound c ≡ true) (w : Typed c) (in2 : c.channel.stage ≡ 2)
    (header : t.header ≡ export_header which what) where
  name : name_of (is_initialised c) (cla_of t.header) (ins_of t.header) ≡ Ok ins.Export
  name = ap (λ (h : List ℕ). name_of (is_initialised c) (cla_of h) (ins_of h)) header
      ∙ known c ins.Export (p1_byte which) (p2_byte what) sound in2 export-sealed

  abbrev names : Names c t.header
  names = record {
    instruction = ins.Export;
    name = name;
    sealed = export-sealed;
    stage = staged c ins.Export (p1_byte which) (p2_byte what) sound in2 export-sealed;
  }

  listed-there : listed c t.header names ≡ some (Asked which what)
  listed-there = ap (λ (h : List ℕ). (row_of ins.Export).lists (p1_of h) (p2_of h)) header ∙ export-listed which what

  -- the turn, whatever the checks come to
  module _ (right : Hold (export_checks c.pins c.keys which what t.data') → suits export_supply t.supply ≡ true) where
    turn : InStage2 c t (outcome (Asked which what) (opened c t) t.data' t.supply) (fault_of (Asked which what) (opened c t) t.data')
    unfolding rule_of
    turn = listed2 c t names sound w in2 (Asked which what) listed-there right

    abbrev Ends : Verdict → Type 0
    Ends v = Exchange c t (outcome_by (Asked which what) (opened c t) t.data' t.supply v) → Ended c t which what

    below : (w : ℕ) → w < success → w ≡ success → ⊥
    below w l e = omega (arith, l, e)

    pub ended : Ended c t which what
    unfolding rule_of export_checks export_reply
    ended =
        by-verdict-below Ends export_supply success (checks_of (Asked which what) (opened c t) t.data')
        (omega arith, (omega arith, (omega arith, tt)))
        (λ h. by-test (λ (r : Reply). Exchange c t r → Ended c t which what) (says_yes t.supply)
        (λ y x. exported x.plain (x.card ∙ ap (λ (n : Card). with_mac n (unsealed_by c t).session.iv) (after_is which c t.data')))
        (λ y x. failed 0x6984 (below 0x6984 (omega arith)) x.plain x.card))
        (λ w l x. failed w (below w l) x.plain x.card)
        turn.turn

-- ---- the keys as they go out
short : (tag n : ℕ) (v : List ℕ) → length v ≡ n → n < 128 → field tag v ≡ tag ∷ n ∷ v
short tag n v e h = rw (e, lt-ltb n 128 h)

pair_is : (public private : List ℕ) → length public ≡ 65 → length private ≡ 32
    → exported_pair public private ≡ 0xA1 ∷ 0x65 ∷ 0x80 ∷ 0x41 ∷ (public ++ (0x81 ∷ 0x20 ∷ private))
pair_is public private p q =
    ap (field 0xA1) (ap₂ ◌++◌ (short 0x80 65 public p (omega arith)) (short 0x81 32 private q (omega arith)))
    ∙ short 0xA1 101 (0x80 ∷ 0x41 ∷ (public ++ (0x81 ∷ 0x20 ∷ private)))
    (omega (arith, length-append public (0x81 ∷ 0x20 ∷ private))) (omega arith)

parts_are : (s public private : List ℕ) → s ≡ 0x01 ∷ (public ++ private) → length public ≡ 65 → length private ≡ 32
    → exported_pair (export_public s) (export_private s) ≡ exported_pair public private
parts_are s public private e p q =
    ap (λ (x : List ℕ). exported_pair (export_public x) (export_private x)) e
    ∙ ap₂ exported_pair (take_at public private 65 p)
    (ap (take 32) (drop_at public private 65 p) ∙ take_all 32 private (omega (arith, q)))

-- ---- where the card lets the private key out
module _ (c : Card) (t : Turn) (which : ExportPath) (public private : List ℕ) (p : Supposed c t which public private) where
  in2 : c.channel.stage ≡ 2
  in2 = eqb-true c.channel.stage 2
      (the_second _ (eqb c.channel.stage 2) (not-true (is_zero c.pins.verified) p.verified) (verified-stage c p.sound))

  holds : Hold (export_checks c.pins c.keys which export_part.PrivateAndPublic t.data')
  unfolding export_checks
  holds = (rw (p.extended, p.verified), (p.form, (ap in_eip1581 (asked_is which c t.data') ∙ begun-so (asked_path which c t.data') p.path, tt)))

  right : suits export_supply t.supply ≡ true
  unfolding suits
  right = rw (p.supply, length-append public private, p.public65, p.private32)

  reply-is : (x : Card) → Hold (checks_of (Asked which export_part.PrivateAndPublic) x t.data')
      → plain_text (outcome (Asked which export_part.PrivateAndPublic) x t.data' t.supply)
      ≡ exported_pair (export_public t.supply) (export_private t.supply) ++ word success
  unfolding rule_of export_reply
  reply-is x h = ap (λ (v : Verdict). plain_text (outcome_by (Asked which export_part.PrivateAndPublic) x t.data' t.supply v))
      (held export_supply (checks_of (Asked which export_part.PrivateAndPublic) x t.data') h)
      ∙ rw p.supply

  pub there : ((answered_by c t).refusal ≡ 0) × ((unsealed_by c t).refusal ≡ 0)
      × ((unsealed_by c t).bytes ≡ 0xA1 ∷ 0x65 ∷ 0x80 ∷ 0x41 ∷ (public ++ (0x81 ∷ 0x20 ∷ (private ++ (0x90 ∷ 0x00 ∷ [])))))
  unfolding rule_of
  there =
      let x = (turn c t which export_part.PrivateAndPublic p.sound p.typed in2 p.header (λ h. right)).turn in (
        x.answered,
        x.accepted,
        x.plain
            ∙ reply-is (opened c t) holds
            ∙ ap (λ (y : List ℕ). y ++ word success)
            (parts_are t.supply public private p.supply p.public65 p.private32 ∙ pair_is public private p.public65 p.private32)
            ∙ ap (λ (y : List ℕ). 0xA1 ∷ 0x65 ∷ 0x80 ∷ 0x41 ∷ y) (append_assoc public (0x81 ∷ 0x20 ∷ private) (word success)),
      )

-- ---- examples: on a card with a verified PIN and an extended key that a list of calls reaches
abbrev export_turn : (which : ExportPath) (what : ExportPart) (d : List ℕ) → Bytes (export_header which what) → Bytes d → length d ≤ 223 → Turn
export_turn which what d h bytes fits = record {
  header = export_header which what;
  data' = d;
  supply = 0x01 ∷ zeros 97;
  sealroom = 261;
  answerroom = 258;
  unsealroom = 223;
  four = refl;
  most = fits;
  headerbytes = h;
  databytes = bytes;
  supplybytes = (omega arith, bytes-replicate 97 0 (omega arith));
  sealenough = omega arith;
  answerenough = omega arith;
  unsealenough = omega arith;
}

module _ (which : ExportPath) (what : ExportPart) (d : List ℕ) (h : Bytes (export_header which what)) (bytes : Bytes d) (fits : length d ≤ 223) where
  abbrev example : Turn
  example = export_turn which what d h bytes fits

  abbrev card2 : Card
  card2 = in_channel 2 kind2-reached.iv 1 (key_with 2 key_hash)

  supplied : Hold (export_checks card2.pins card2.keys which what d) → suits export_supply (0x01 ∷ zeros 97) ≡ true
  unfolding suits
  supplied v = refl

  reads-with : (answer : List ℕ) → plain_text (outcome (Asked which what) (opened card2 example) d (0x01 ∷ zeros 97)) ≡ answer
      → Reads which what d answer
  reads-with answer e = record {
    calls = kind2-reached.reached.calls;
    turn = example;
    header = refl;
    given = refl;
    supply = refl;
    answers =
        ap (λ (x : Card). (unsealed_by x example).bytes) kind2-reached.reached.ends
        ∙ (turn card2 example which what (reached-sound kind2-reached.iv).2
        (typed kind2-reached.iv kind2-reached.block 1 2 key_hash (length-sha256 (zeros 65))) refl refl supplied).turn.plain
        ∙ e;
  }

path_bytes : (x : ℕ) → x ≤ 255 → Bytes (0x80 ∷ 0x00 ∷ 0x00 ∷ 0x2B ∷ 0x80 ∷ 0x00 ∷ 0x00 ∷ 0x3C ∷ x ∷ 0x00 ∷ 0x06 ∷ 0x2D ∷ [])
path_bytes x h =
    (omega arith, (omega arith, (omega arith, (omega arith, (omega arith, (omega arith, (omega arith, (omega arith, (omega (arith, h), (omega arith, (omega arith, (omega arith, tt))))))))))))

header-bytes : (p1 p2 : ℕ) → p1 ≤ 255 → p2 ≤ 255 → Bytes (0x80 ∷ 0xC2 ∷ p1 ∷ p2 ∷ [])
header-bytes p1 p2 h g = (omega arith, (omega arith, (omega (arith, h), (omega (arith, g), tt))))

pub node-reads : Reads export_path.Given export_part.PrivateAndPublic chat_node
    (0xA1 ∷ 0x65 ∷ 0x80 ∷ 0x41 ∷ (zeros 65 ++ (0x81 ∷ 0x20 ∷ (zeros 32 ++ (0x90 ∷ 0x00 ∷ [])))))
unfolding rule_of export_checks export_reply
node-reads =
    reads-with export_path.Given export_part.PrivateAndPublic chat_node (header-bytes 1 0 (omega arith) (omega arith)) (path_bytes 0x80 (omega arith))
    (omega arith) _ refl

pub beside-public : Reads export_path.MakeCurrent export_part.PublicOnly beside_node (0xA1 ∷ 0x43 ∷ 0x80 ∷ 0x41 ∷ (zeros 65 ++ (0x90 ∷ 0x00 ∷ [])))
unfolding rule_of export_checks export_reply
beside-public =
    reads-with export_path.MakeCurrent export_part.PublicOnly beside_node (header-bytes 2 1 (omega arith) (omega arith)) (path_bytes 0x00 (omega arith))
    (omega arith) _ refl

pub beside-reads : Reads export_path.Given export_part.PrivateAndPublic beside_node (0x69 ∷ 0x85 ∷ [])
unfolding rule_of export_checks export_reply
beside-reads =
    reads-with export_path.Given export_part.PrivateAndPublic beside_node (header-bytes 1 0 (omega arith) (omega arith)) (path_bytes 0x00 (omega arith))
    (omega arith) _ refl
