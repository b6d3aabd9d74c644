-- The tap record: the law of crate `laws_engine`; what SET NDEF takes; turns with SET NDEF, by the law of sealed turns; and the tap read before and
-- after one.
-- Assumes nothing.
use mathlib.Core.Path.{◌≡◌, refl, sym, ap, ◌∙◌}
use mathlib.Core.Bool.{Bool, true, false, cond}
use mathlib.Core.List.{List, [], ◌∷◌}
use mathlib.Core.Option.{none, some}
use Prim.Native.Nat.{ℕ, ◌+◌, ◌*◌, ◌-◌, ◌≤◌}
use native.Mathlib.Omega.{arith}
use borrow.Author.Tests.{eqb-true, eq-eqb, leb-true, le-leb, not-true}
use lib.Dec.{eqb}
use lib.ListN.{length}
use Rattle.template_rules.proofs.HeadFacts.{by-test}
use Rattle.card.specs.declared.Card.{Card}
use Rattle.card.specs.declared.Tap.{Tap}
use Rattle.card.specs.State.{zeros, no_keys, reset_of, with_tap, tap_bytes, tap_of}
use Rattle.card.specs.Slots.{all_of, some_of, is_zero}
use Rattle.card.specs.Sound.{is_sound, is_ndef}
use Rattle.card.proofs.Tests.{the_second}
use Rattle.card.proofs.SoundFacts.{verified-stage}
use Rattle.card.proofs.TapFacts.{ndef-rules, tap-of-data}
use Rattle.sound.specs.declared.Answer.{Answer}
use Rattle.sound.specs.Reset.{reset_answer, done}
use Rattle.record_rules.specs.declared.Form.{Form}
use Rattle.record_rules.specs.Fields.{encode_all, fields_in, record_of}
use Rattle.record_rules.specs.Forms.{forms, Listed}
use Rattle.record_rules.specs.Answers.{read_answer}
use Rattle.record_rules.proofs.FormFacts.{holds-each}
use Rattle.record_rules.proofs.ReadFacts.{read-record, read_held}
use Rattle.record_tap.specs.Tap.{tap_part}
use Rattle.record_tap.proofs.PlaceFacts.{part-tap, part_none}
use Rattle.rules.specs.declared.Instruction.TheVariants as ins
use Rattle.rules.specs.declared.Command.TheVariants as command
use Rattle.rules.specs.Words.{word, Reply, succeeds, fails}
use Rattle.rules.specs.Supplies.{suits}
use Rattle.rules.specs.Commands.{is_verified, ndef_checks, ndef_reply, rule_of}
use Rattle.rules.specs.Rows.{row_of, is_plain}
use Rattle.rules.specs.Channel.{session_of, with_mac, plain_text}
use Rattle.rules.specs.Steps.{cla_of, ins_of, p1_of, p2_of, name_of, is_initialised}
use Rattle.laws_engine.proofs.Sound.{answer-sound, answer-shaped}
use Rattle.laws_engine.proofs.Tapped.{answer-tap}
use Rattle.laws_exchange.specs.Opens.{outcome}
use Rattle.laws_exchange.specs.Exchange.{Typed, Turn, sealed_by, answered_by, unsealed_by, Names, listed, opened, Exchange}
use Rattle.laws_exchange.proofs.Exchanges.{known, staged, listed2, unlisted2}
use Rattle.laws_allowance.proofs.Reached.{typed}
use Rattle.laws_two_runs.proofs.Reached.{in_channel, verified-reached}
use Rattle.claims.specs.TapRecord.{Counted, ndef_with, ndef_header, Stored, Fails, before, Example, TapRecord}

-- ---- what SET NDEF takes
counts : (d : List ℕ) → is_ndef d ≡ true → Counted d
counts [] e = absurd (omega (arith, leb-true 2 0 (ndef-rules [] e).least))
counts (x ∷ []) e = absurd (omega (arith, leb-true 2 1 (ndef-rules (x ∷ []) e).least))
counts (x ∷ y ∷ more) e =
    let r = ndef-rules (x ∷ y ∷ more) e in
    record {
      high = x;
      low = y;
      message = more;
      whole = refl;
      count = omega (arith, eqb-true (x * 256 + y) (length (x ∷ y ∷ more) - 2) r.told);
      most = leb-true (length (x ∷ y ∷ more)) 223 r.most;
    }

counted : (d : List ℕ) → Counted d → is_ndef d ≡ true
counted d k = ap is_ndef k.whole ∙ takes k.high k.low k.message k.count (omega (arith, k.most, ap length k.whole))
  where
    takes : (x y : ℕ) (more : List ℕ) → x * 256 + y ≡ length more → length (x ∷ y ∷ more) ≤ 223 → is_ndef (x ∷ y ∷ more) ≡ true
    takes x y more e l = rw (
      le-leb 2 (length (x ∷ y ∷ more)) (omega arith),
      le-leb (length (x ∷ y ∷ more)) 223 l,
      eq-eqb (x * 256 + y) (length (x ∷ y ∷ more) - 2) (omega (arith, e)),
    )

uncounted : (d : List ℕ) → (Counted d → ⊥) → (b : Bool) → is_ndef d ≡ b → b ≡ false
uncounted d f true e = absurd (f (counts d e))
uncounted d f false e = refl

-- ---- a turn with SET NDEF in stage 2
ndef-sealed : is_plain ins.SetNdef ≡ false
ndef-sealed = refl

ndef-listed : (row_of ins.SetNdef).lists 0 0 ≡ some command.SetNdef
ndef-listed = refl

ndef-unlisted : (p1 p2 : ℕ) → (p1 ≡ 0 → p2 ≡ 0 → ⊥) → (row_of ins.SetNdef).lists p1 p2 ≡ none
ndef-unlisted p1 p2 f = go (is_zero p2) (eqb p1 0) refl refl
  where
    go : (a b : Bool) → is_zero p2 ≡ a → eqb p1 0 ≡ b → cond a (cond b (some command.SetNdef) none) none ≡ none
    go true true e g = absurd (f (eqb-true p1 0 g) (eqb-true p2 0 e))
    go true false e g = refl
    go false b e g = refl

-- whatever P1 and P2
module _ (c : Card) (t : Turn) (p1 p2 : ℕ) (sound : is_sound c ≡ true) (w : Typed c) (header : t.header ≡ ndef_with p1 p2) where
  abbrev names : c.channel.stage ≡ 2 → Names c t.header
  names in2 = record {
    instruction = ins.SetNdef;
    name = ap (λ (h : List ℕ). name_of (is_initialised c) (cla_of h) (ins_of h)) header ∙ known c ins.SetNdef p1 p2 sound in2 ndef-sealed;
    sealed = ndef-sealed;
    stage = staged c ins.SetNdef p1 p2 sound in2 ndef-sealed;
  }

  unlisted : (p1 ≡ 0 → p2 ≡ 0 → ⊥) → c.channel.stage ≡ 2 → Fails c t (0x6A ∷ 0x86 ∷ [])
  unlisted f in2 =
      let l = ap (λ (h : List ℕ). (row_of ins.SetNdef).lists (p1_of h) (p2_of h)) header ∙ ndef-unlisted p1 p2 f in
      let turn = (unlisted2 c t (names in2) sound w in2 l).turn in
      record { answered = turn.answered; accepted = turn.accepted; reads = turn.plain; card = turn.card }

-- both 00
module _ (c : Card) (t : Turn) (sound : is_sound c ≡ true) (w : Typed c) (header : t.header ≡ ndef_header) where
  module _ (in2 : c.channel.stage ≡ 2) where
    abbrev names00 : Names c t.header
    names00 = names c t 0 0 sound w header in2

    listed-there : listed c t.header names00 ≡ some command.SetNdef
    listed-there = ap (λ (h : List ℕ). (row_of ins.SetNdef).lists (p1_of h) (p2_of h)) header ∙ ndef-listed

    turn : Exchange c t (outcome command.SetNdef (opened c t) t.data' t.supply)
    unfolding rule_of suits
    turn = (listed2 c t names00 sound w in2 command.SetNdef listed-there (λ _. refl)).turn

    failed : (n : ℕ) → outcome command.SetNdef (opened c t) t.data' t.supply ≡ fails (opened c t) n → Fails c t (word n)
    failed n e = record {
      answered = turn.answered;
      accepted = turn.accepted;
      reads = turn.plain ∙ ap plain_text e;
      card = turn.card ∙ ap (λ (r : Reply). with_mac r.card (unsealed_by c t).session.iv) e;
    }

    unverified : is_verified c.pins ≡ false → Fails c t (0x69 ∷ 0x85 ∷ [])
    unfolding rule_of ndef_checks
    unverified v = failed 0x6985 (rw v)

  -- a card that is verified is in stage 2
  module _ (v : is_verified c.pins ≡ true) where
    in2 : c.channel.stage ≡ 2
    in2 = eqb-true c.channel.stage 2
        (the_second _ (eqb c.channel.stage 2) (not-true (is_zero c.pins.verified) v) (verified-stage c sound))

    miscounted : (Counted t.data' → ⊥) → Fails c t (0x6A ∷ 0x80 ∷ [])
    unfolding rule_of ndef_checks
    miscounted f = failed in2 0x6A80 (rw (v, uncounted t.data' f (is_ndef t.data') refl))

    module _ (form : Counted t.data') where
      stores-it : outcome command.SetNdef (opened c t) t.data' t.supply ≡ succeeds (with_tap (opened c t) (tap_of t.data')) []
      unfolding rule_of ndef_checks ndef_reply
      stores-it = rw (v, counted t.data' form)

      stored : Stored c t
      stored = record {
        answered = (turn in2).answered;
        accepted = (turn in2).accepted;
        reads = (turn in2).plain ∙ ap plain_text stores-it;
        card = (turn in2).card ∙ ap (λ (r : Reply). with_mac r.card (unsealed_by c t).session.iv) stores-it;
      }

-- ---- RESET
reset-tap : (c : Card) → (reset_answer c).card.tap ≡ c.tap
unfolding reset_answer
reset-tap c = by-test (λ (a : Answer). a.card.tap ≡ c.tap) (is_sound c) (λ _. refl) (λ _. refl)

-- ---- the tap read of bytes that READ takes as a card's record
module _ (s f : List ℕ) (c : Card) (r : read_answer s ≡ done (reset_of c)) where
  reads_none : c.tap.len ≡ 0 → tap_part s f ≡ f
  reads_none z = part_none s f (ap (λ (a : Answer). a.refusal) r) (ap (λ (a : Answer). a.card.tap.len) r ∙ z)

  reads-own : (c.tap.len ≡ 0 → ⊥) → tap_part s f ≡ tap_bytes c.tap
  reads-own n =
      part-tap s f (ap (λ (a : Answer). a.refusal) r) (λ z. n (sym (ap (λ (a : Answer). a.card.tap.len) r) ∙ z))
      ∙ ap (λ (a : Answer). tap_bytes a.card.tap) r

-- ---- an example, on a card with a verified PIN that a list of calls reaches
abbrev one : List ℕ
one = 0x00 ∷ 0x01 ∷ 0xD0 ∷ []

abbrev one_turn : Turn
one_turn = record {
  header = ndef_header;
  data' = one;
  supply = [];
  sealroom = 261;
  answerroom = 258;
  unsealroom = 223;
  four = refl;
  most = omega arith;
  headerbytes = (omega arith, (omega arith, (omega arith, (omega arith, tt))));
  databytes = (omega arith, (omega arith, (omega arith, tt)));
  supplybytes = tt;
  sealenough = omega arith;
  answerenough = omega arith;
  unsealenough = omega arith;
}

one-counted : Counted one
one-counted = record { high = 0x00; low = 0x01; message = 0xD0 ∷ []; whole = refl; count = refl; most = omega arith }

abbrev verified_card : Card
verified_card = in_channel 2 verified-reached.iv 1 no_keys

verified-sound : (iv : List ℕ) → is_sound (in_channel 2 iv 1 no_keys) ≡ true
unfolding is_sound all_of some_of
verified-sound iv = refl

verified-typed : Typed verified_card
verified-typed = typed verified-reached.iv verified-reached.block 1 0 (zeros 32) refl

one-stored : Stored verified_card one_turn
one-stored = stored verified_card one_turn (verified-sound verified-reached.iv) verified-typed refl refl one-counted

-- the next card
abbrev next : Card
next = (answered_by verified_card one_turn).card

next-tap : next.tap ≡ tap_of one
next-tap = ap (λ (x : Card). x.tap) one-stored.card

next-read : read_answer (record_of next) ≡ done (reset_of next)
next-read =
    let sent = (sealed_by (session_of verified_card.channel) one_turn).bytes in
    let sound = verified-sound verified-reached.iv in
    read-record next (answer-shaped verified_card sent [] 258 sound verified-typed.shaped) (answer-sound verified_card sent [] 258 sound)

-- the tap read of both cards
module _ (f : List ℕ) where
  read-factory : tap_part (record_of verified_card) f ≡ f
  read-factory =
      reads_none (record_of verified_card) f verified_card
      (read-record verified_card verified-typed.shaped (verified-sound verified-reached.iv)) refl

  read-each : (g : Form) → Listed g forms → tap_part (encode_all (fields_in g verified_card)) f ≡ f
  unfolding all_of
  read-each g l =
      let shaped = verified-typed.shaped in
      reads_none (encode_all (fields_in g verified_card)) f verified_card
      (read_held g l verified_card shaped (verified-sound verified-reached.iv) (holds-each verified_card refl refl g l refl shaped)) refl

  read-own : tap_part (record_of next) f ≡ one
  read-own =
      reads-own (record_of next) f next next-read (λ z. omega (arith, ap (λ (t : Tap). t.len) next-tap, z)) ∙ ap tap_bytes next-tap

one-before : before verified-reached.reached.calls ≡ verified_card
one-before = verified-reached.reached.ends

one-taps : Example one
one-taps = record {
  calls = verified-reached.reached.calls;
  turn = one_turn;
  header = refl;
  given = refl;
  none = ap (λ (x : Card). tap_bytes x.tap) one-before;
  reads = ap (λ (x : Card). (unsealed_by x one_turn).bytes) one-before ∙ one-stored.reads;
  tapped = ap (λ (x : Card). tap_bytes (answered_by x one_turn).card.tap) one-before ∙ ap tap_bytes next-tap;
  factory = λ f. ap (λ (x : Card). tap_part (record_of x) f) one-before ∙ read-factory f;
  factoryeach = λ g l f. ap (λ (x : Card). tap_part (encode_all (fields_in g x)) f) one-before ∙ read-each f g l;
  own = λ f. ap (λ (x : Card). tap_part (record_of (answered_by x one_turn).card) f) one-before ∙ read-own f;
}

pub tap-record : TapRecord
tap-record = record {
  answers = answer-tap;
  taken = λ d. (counts d, counted d);
  bytes = tap-of-data;
  stores = stored;
  unlisted = unlisted;
  unverified = unverified;
  miscounted = miscounted;
  fresh = λ uid key. refl;
  powerup = reset-tap;
  one = one-taps;
}
