-- Entries that a terminal seals, one after the other; and the status row read from FRESH on, with keys and supplies of zeros.
-- Assumes nothing.
use mathlib.Core.Path.{◌≡◌, refl, sym, ap, ◌∙◌, subst}
use mathlib.Core.Bool.{true, false}
use mathlib.Core.List.{List, [], ◌∷◌}
use mathlib.Core.Option.{some}
use Prim.Native.Nat.{ℕ, ◌≤◌}
use native.Mathlib.Omega.{arith}
use borrow.Author.Tests.{leb-true}
use lib.Dec.{leb}
use lib.ListN.{length}
use Rattle.octets.specs.Bytes.{Bytes}
use Rattle.channel_rules.specs.Terminal.{Out, sealed_command}
use Rattle.card.specs.declared.Card.{Card}
use Rattle.card.specs.State.{zeros, no_keys}
use Rattle.card.specs.Slots.{all_of}
use Rattle.card.specs.Sound.{is_sound, is_digit}
use Rattle.card.proofs.Tests.{both}
use Rattle.card.proofs.Rules.{pins-rules, parts-rules}
use Rattle.card.proofs.SoundFacts.{fresh-sound}
use Rattle.rules.specs.declared.Instruction.TheVariants as ins
use Rattle.rules.specs.declared.StatusKind.TheVariants as status
use Rattle.rules.specs.declared.Command.TheVariants as command
use Rattle.rules.specs.Supplies.{suits}
use Rattle.rules.specs.Commands.{status_reply, rule_of}
use Rattle.rules.specs.Rows.{row_of, is_plain}
use Rattle.rules.specs.Channel.{session_of}
use Rattle.rules.specs.Steps.{is_initialised}
use Rattle.rules.specs.Engine.{answer_out}
use Rattle.laws_engine.proofs.Sound.{answer-sound}
use Rattle.laws_exchange.specs.Opens.{outcome, fault_of}
use Rattle.laws_exchange.specs.Exchange.{Typed, Turn, answered_by, unsealed_by, Names, opened, InStage2}
use Rattle.laws_exchange.proofs.Seals.{gives, is-after}
use Rattle.laws_exchange.proofs.Exchanges.{opens2, listed2, names}
use Rattle.laws_two_runs.specs.Runs.{next_at}
use Rattle.laws_allowance.proofs.Reached.{typed}
use Rattle.laws_two_runs.proofs.Reached.{fresh, init_command, initialised_card, init-reaches, in_channel, stage2-reached, reached-sound}
use Rattle.claims.specs.Rows.{Entry, after, RightThen, Initialises}
use Rattle.claims.specs.RowsMet.{RowsMet}
use Rattle.claims.proofs.InitSays.{init-initialises}

-- ---- a turn 80 b 00 00 with no supply
abbrev turn_of : (b : ℕ) (d : List ℕ) → Bytes (0x80 ∷ b ∷ 0 ∷ 0 ∷ []) → Bytes d → length d ≤ 223 → Turn
turn_of b d h bytes fits = record {
  header = 0x80 ∷ b ∷ 0 ∷ 0 ∷ [];
  data' = d;
  supply = [];
  sealroom = 261;
  answerroom = 258;
  unsealroom = 223;
  four = refl;
  most = fits;
  headerbytes = h;
  databytes = bytes;
  supplybytes = tt;
  sealenough = omega arith;
  answerenough = omega arith;
  unsealenough = omega arith;
}

header-bytes : (b : ℕ) → leb b 255 ≡ true → Bytes (0x80 ∷ b ∷ 0 ∷ 0 ∷ [])
header-bytes b e = (omega arith, (omega (arith, leb-true b 255 e), (omega arith, (omega arith, tt))))

-- ---- an entry, sealed for the card
verify-sealed : is_plain ins.Verify ≡ false
verify-sealed = refl

verify-listed : (row_of ins.Verify).lists 0 0 ≡ some command.Verify
verify-listed = refl

verify-bytes : Bytes (0x80 ∷ (row_of ins.Verify).byte ∷ 0 ∷ 0 ∷ [])
verify-bytes = header-bytes 0x20 refl

record Ready (c : Card) : Type 0 where
  pub sound : is_sound c ≡ true
  pub typed : Typed c
  pub stage : c.channel.stage ≡ 2

module _ (c : Card) (r : Ready c) (e : List ℕ) (bytes : Bytes e) (fits : length e ≤ 223) where
  abbrev verifies : Names c (0x80 ∷ (row_of ins.Verify).byte ∷ 0 ∷ 0 ∷ [])
  verifies = names c ins.Verify 0 0 r.sound r.stage verify-sealed

  abbrev turn : Turn
  turn = turn_of (row_of ins.Verify).byte e verify-bytes bytes fits

  abbrev entry : Entry c
  entry = record {
    sent = record {
      bytes = sealed_command (session_of c.channel) (0x80 ∷ (row_of ins.Verify).byte ∷ 0 ∷ 0 ∷ []) e;
      supply = [];
      room = 258;
      enough = omega arith;
      opens = opens2 c turn verifies r.sound r.typed r.stage command.Verify verify-listed;
    };
    verify = refl;
  }

  answered-same : after c entry ≡ (answered_by c turn).card
  answered-same =
      sym (ap (λ (o : Out). (answer_out c o.bytes [] 258).card) (gives (session_of c.channel) turn r.typed.keyed))

  done : InStage2 c turn (outcome command.Verify (opened c turn) e []) (fault_of command.Verify (opened c turn) e)
  unfolding rule_of suits
  done = listed2 c turn verifies r.sound r.typed r.stage command.Verify verify-listed (λ v. refl)

  ready-after : Ready (after c entry)
  ready-after = record {
    sound = answer-sound c entry.sent.bytes [] 258 r.sound;
    typed = subst (λ (n : Card). Typed n) (sym answered-same) done.typed;
    stage = ap (λ (n : Card). n.channel.stage) answered-same ∙ done.stays;
  }

-- digits are bytes
digits-bytes : (s : List ℕ) → all_of is_digit s ≡ true → Bytes s
unfolding all_of
digits-bytes [] e = tt
digits-bytes (x ∷ s) e =
    let h = both (is_digit x) (all_of is_digit s) e in
    let l = leb-true x 0x39 (both (leb 0x30 x) (leb x 0x39) h.0).1 in
    (omega (arith, l), digits-bytes s h.1)

pin-bytes : (c : Card) → Ready c → Bytes c.pins.pin
pin-bytes c r =
    digits-bytes c.pins.pin
    (pins-rules c.pins (parts-rules c (is-after c r.sound (λ z. omega (arith, r.stage))).parts).pins).pin

entries : (c : Card) (e : List ℕ) → is_sound c ≡ true → Typed c → c.channel.stage ≡ 2 → c.pins.pin_tries ≡ 3 → Bytes e → length e ≤ 223
    → (e ≡ c.pins.pin → ⊥) → RightThen c
entries c e sound w in2 three bytes fits wrong =
    let r0 : Ready c = record { sound = sound; typed = w; stage = in2 } in
    let c1 = after c (entry c r0 e bytes fits) in
    let r1 : Ready c1 = ready-after c r0 e bytes fits in
    let c2 = after c1 (entry c1 r1 e bytes fits) in
    let r2 : Ready c2 = ready-after c1 r1 e bytes fits in
    let c3 = after c2 (entry c2 r2 e bytes fits) in
    let r3 : Ready c3 = ready-after c2 r2 e bytes fits in
    record {
      three = record {
        one = record { sound = sound; stage = in2; tries = three; first = entry c r0 e bytes fits; wrong1 = wrong };
        second = entry c1 r1 e bytes fits;
        third = entry c2 r2 e bytes fits;
        wrong2 = wrong;
        wrong3 = wrong;
      };
      fourth = entry c3 r3 c.pins.pin (pin-bytes c r0) (omega (arith, w.shaped.pin));
      right = refl;
    }

-- ---- the status, from FRESH on
init-is : (answer_out fresh init_command (1 ∷ zeros 32) 258).card ≡ initialised_card
unfolding next_at
init-is = init-reaches

abbrev initialises : Initialises fresh
initialises = record {
  sound = fresh-sound (zeros 16) (zeros 65);
  fresh = refl;
  bytes = init_command;
  supply = 1 ∷ zeros 32;
  room = 258;
  done = ap is_initialised init-is;
}

abbrev status_card : Card
status_card = in_channel 2 stage2-reached.iv 0 no_keys

abbrev status_turn : Turn
status_turn = turn_of 0xF2 [] (header-bytes 0xF2 refl) tt (omega arith)

reads : (unsealed_by status_card status_turn).bytes
    ≡ 0xA3 ∷ 0x09 ∷ 0x02 ∷ 0x01 ∷ 0x03 ∷ 0x02 ∷ 0x01 ∷ 0x05 ∷ 0x01 ∷ 0x01 ∷ 0x00 ∷ 0x90 ∷ 0x00 ∷ []
unfolding rule_of suits status_reply
reads =
    (listed2 status_card status_turn (names status_card ins.Status 0 0 (reached-sound stage2-reached.iv).0 refl refl)
    (reached-sound stage2-reached.iv).0 (typed stage2-reached.iv stage2-reached.block 0 0 (zeros 32) refl) refl (command.Status status.Application) refl (λ v. refl)).turn.plain

pub rows-met : RowsMet
rows-met = record {
  init = init-initialises;
  entries = entries;
  status = record {
    init = initialises;
    calls = stage2-reached.reached.calls;
    channel = record {
      sound = ap is_sound stage2-reached.reached.ends ∙ (reached-sound stage2-reached.iv).0;
      stage = ap (λ (x : Card). x.channel.stage) stage2-reached.reached.ends;
      pintries =
          ap (λ (x : Card). x.pins.pin_tries) stage2-reached.reached.ends ∙ sym (ap (λ (x : Card). x.pins.pin_tries) init-is);
      puktries =
          ap (λ (x : Card). x.pins.puk_tries) stage2-reached.reached.ends ∙ sym (ap (λ (x : Card). x.pins.puk_tries) init-is);
      kind = ap (λ (x : Card). x.keys.kind) stage2-reached.reached.ends ∙ sym (ap (λ (x : Card). x.keys.kind) init-is);
    };
    turn = status_turn;
    header = refl;
    reads = ap (λ (x : Card). (unsealed_by x status_turn).bytes) stage2-reached.reached.ends ∙ reads;
  };
}
