-- Turns of SEAL, ANSWER and UNSEAL with LOAD in stage 2, by the law of sealed turns: the reply, and the fault offset beside it.
-- Assumes nothing.
use mathlib.Core.Path.{◌≡◌, refl, sym, ap, ◌∙◌}
use mathlib.Core.Bool.{Bool, true, false, ◌&&◌, cond, false≢true}
use mathlib.Core.List.{List, [], ◌∷◌}
use mathlib.Core.Logic.{◌↔◌, ◌⊎◌, inl, inr, ⊎_elim}
use mathlib.Core.Option.{some}
use Prim.Native.Nat.{ℕ, ◌≤◌, ◌<◌}
use native.Mathlib.Omega.{arith}
use borrow.Author.Tests.{eqb-true, eqb-false, leb-true, leb-false, le-ltb, ne_eqb, not-true}
use lib.Dec.{leb, eqb}
use lib.ListN.{length, get_or}
use lib.Seq.{take_all}
use Rattle.sha_rules.specs.Hash.{sha256}
use Rattle.std.specs.Prelude.{Ok, Err}
use Rattle.template_walk.specs.Walk.{Walked, walk_of, report, WALK}
use Rattle.refusals.specs.Refusals.{wrong_supply}
use Rattle.card.specs.declared.Card.{Card}
use Rattle.card.specs.State.{with_keys}
use Rattle.card.specs.Slots.{is_zero}
use Rattle.card.specs.Sound.{is_sound}
use Rattle.card.proofs.Tests.{the_second}
use Rattle.card.proofs.SoundFacts.{verified-stage}
use Rattle.rules.specs.declared.KeyForm.{KeyForm}
use Rattle.rules.specs.declared.KeyForm.TheVariants as key
use Rattle.rules.specs.declared.Instruction.TheVariants as ins
use Rattle.rules.specs.declared.Command.TheVariants as command
use Rattle.rules.specs.Words.{word, Hold, Reply, succeeds, fails}
use Rattle.rules.specs.Supplies.{load_supply, suits}
use Rattle.rules.specs.Commands.{is_verified, is_key_data, kind_of, key_with, load_checks, load_reply, place_in, load_place, rule_of}
use Rattle.rules.specs.Rows.{row_of, is_plain}
use Rattle.rules.specs.Channel.{with_mac, plain_text}
use Rattle.rules.specs.Steps.{cla_of, ins_of, p1_of, p2_of, name_of, Arrived, is_initialised, fault_at, Decision, step6, finish, decide}
use Rattle.rules.specs.Engine.{AnswerOut, answer_refused, ask_out, answer_out}
use Rattle.laws_engine.proofs.Faults.{not-keypair, number-not-0, place-told}
use Rattle.laws_exchange.specs.Opens.{outcome, fault_of}
use Rattle.laws_exchange.specs.Exchange.{Turn, unsealed_by, Names, listed, opened, InStage2}
use Rattle.laws_exchange.proofs.Exchanges.{known, staged, listed2}
use Rattle.laws_walk.proofs.Walking.{offset-place}
use Rattle.claims.specs.Hashing.{p1_byte, key_kind, Asks, Loading, Loaded}
use Rattle.claims.specs.Faults.{LoadFails, Supposed}

load-sealed : is_plain ins.Load ≡ false
load-sealed = refl

load-listed : (form : KeyForm) → (row_of ins.Load).lists (p1_byte form) 0 ≡ some (command.Load form)
load-listed key.Keypair = refl
load-listed key.Extended = refl
load-listed key.Seed = refl

kind-same : (form : KeyForm) → kind_of form ≡ key_kind form
kind-same key.Keypair = refl
kind-same key.Extended = refl
kind-same key.Seed = refl

-- the checks read of the card whether the PIN is verified, which the opening keeps
module _ (c : Card) (t : Turn) (form : KeyForm) (p : Supposed c t form) where
  abbrev names : Names c t.header
  names = record {
    instruction = ins.Load;
    name = ap (λ (h : List ℕ). name_of (is_initialised c) (cla_of h) (ins_of h)) p.header
        ∙ known c ins.Load (p1_byte form) 0 p.sound p.stage load-sealed;
    sealed = load-sealed;
    stage = staged c ins.Load (p1_byte form) 0 p.sound p.stage load-sealed;
  }

  listed-there : listed c t.header names ≡ some (command.Load form)
  listed-there = ap (λ (h : List ℕ). (row_of ins.Load).lists (p1_of h) (p2_of h)) p.header ∙ load-listed form

  abbrev right : Type 0
  right = Hold (load_checks c.pins form t.data') → suits load_supply t.supply ≡ true

  turn : right → InStage2 c t (outcome (command.Load form) (opened c t) t.data' t.supply) (fault_of (command.Load form) (opened c t) t.data')
  unfolding rule_of
  turn r = listed2 c t names p.sound p.typed p.stage (command.Load form) listed-there r

  -- it ends with a status word
  failed : right → (n w : ℕ) → outcome (command.Load form) (opened c t) t.data' t.supply ≡ fails (opened c t) w
      → fault_of (command.Load form) (opened c t) t.data' ≡ n → LoadFails c t (word w) n
  failed r n w e f = record {
    answered = (turn r).turn.answered;
    accepted = (turn r).turn.accepted;
    reads = (turn r).turn.plain ∙ ap plain_text e;
    card = (turn r).turn.card ∙ ap (λ (x : Reply). with_mac x.card (unsealed_by c t).session.iv) e;
    fault_offset = (turn r).fault_offset ∙ f;
  }

  pub unverified : is_verified c.pins ≡ false → LoadFails c t (0x69 ∷ 0x85 ∷ []) 255
  unfolding rule_of load_checks fault_at
  unverified v = failed (λ h. absurd (false≢true (sym v ∙ h.0))) 255 0x6985 (rw v) (rw v)

  -- 6A80 of the data, with the place that the form has for them
  module _ (v : is_verified c.pins ≡ true) (k : is_key_data form t.data' ≡ false) where
    wrong : (n : ℕ) → load_place form t.data' ≡ n → LoadFails c t (0x6A ∷ 0x80 ∷ []) n
    unfolding rule_of load_checks fault_at
    wrong n e = failed (λ h. absurd (false≢true (sym k ∙ h.1.0))) n 0x6A80 (rw (v, k)) (rw (v, k) e)

  -- data that LOAD takes
  module _ (v : is_verified c.pins ≡ true) (k : is_key_data form t.data' ≡ true) (flag : ℕ) (rest : List ℕ)
      (supplied : t.supply ≡ flag ∷ rest) (rest65 : length rest ≡ 65) where
    taken-suits : suits load_supply (flag ∷ rest) ≡ true → right
    taken-suits u h = ap (suits load_supply) supplied ∙ u

    no-fault : fault_of (command.Load form) (opened c t) t.data' ≡ 255
    unfolding rule_of load_checks
    no-fault = rw (v, k)

    pub denied : flag ≡ 0 → LoadFails c t (0x6A ∷ 0x80 ∷ []) 255
    unfolding rule_of load_checks load_reply suits
    denied z = failed (taken-suits (rw (rest65, z))) 255 0x6A80 (rw (v, k, supplied, z)) no-fault

    loads-it : flag ≡ 1 → outcome (command.Load form) (opened c t) t.data' t.supply
        ≡ succeeds (with_keys (opened c t) (key_with (key_kind form) (sha256 rest))) (sha256 rest)
    unfolding rule_of load_checks load_reply
    loads-it o = rw (v, k, supplied, o, take_all 65 rest (omega (arith, rest65)), kind-same form)

    pub loaded : flag ≡ 1 → Loaded c t form rest
    unfolding suits
    loaded o =
        let it = turn (taken-suits (rw (rest65, o))) in
        record {
          answered = it.turn.answered;
          accepted = it.turn.accepted;
          reads = it.turn.plain ∙ ap plain_text (loads-it o);
          card = it.turn.card ∙ ap (λ (x : Reply). with_mac x.card (unsealed_by c t).session.iv) (loads-it o);
          fault_offset = it.fault_offset ∙ no-fault;
        }

-- ---- the place, by form: none where WALK takes the data, WALK's offset where it refuses a template's
module _ (d : List ℕ) where
  in-it : (w : Walked) → (report w).refusal ≡ 0 → place_in w ≡ 255
  in-it (Ok n) e = refl
  in-it (Err r) e = absurd (number-not-0 r.fault e)

  taken-place : (form : KeyForm) → (WALK d).refusal ≡ 0 → load_place form d ≡ 255
  unfolding load_place
  taken-place key.Keypair e = in-it (walk_of d) e
  taken-place key.Extended e = in-it (walk_of d) e
  taken-place key.Seed e = refl

  refused-place : (form : KeyForm) → (form ≡ key.Seed → ⊥) → ((WALK d).refusal ≡ 0 → ⊥)
      → (is_key_data form d ≡ false) × (load_place form d ≡ (WALK d).offset)
  unfolding load_place
  refused-place key.Keypair n r = (not-keypair false d r, place-told (walk_of d) r)
  refused-place key.Extended n r = (not-keypair true d r, place-told (walk_of d) r)
  refused-place key.Seed n r = absurd (n refl)

module _ (c : Card) (t : Turn) (form : KeyForm) (p : Supposed c t form) (v : is_verified c.pins ≡ true) where
  pub refused : (form ≡ key.Seed → ⊥) → ((WALK t.data').refusal ≡ 0 → ⊥)
      → LoadFails c t (0x6A ∷ 0x80 ∷ []) (WALK t.data').offset × ((WALK t.data').offset < length t.data')
  refused n r =
      let h = refused-place t.data' form n r in (wrong c t form p v h.0 (WALK t.data').offset h.1, offset-place t.data' r)

  pub accepted : (WALK t.data').refusal ≡ 0 → is_key_data form t.data' ≡ false → LoadFails c t (0x6A ∷ 0x80 ∷ []) 255
  accepted e k = wrong c t form p v k 255 (taken-place t.data' form e)

pub seed : (c : Card) (t : Turn) → Supposed c t key.Seed → is_verified c.pins ≡ true → (length t.data' ≡ 64 → ⊥)
    → LoadFails c t (0x6A ∷ 0x80 ∷ []) 255
unfolding load_place
seed c t p v n = wrong c t key.Seed p v (ne_eqb (length t.data') 64 n) 255 refl

-- ---- a card that is verified is in stage 2
pub verified-in2 : (c : Card) → is_sound c ≡ true → is_verified c.pins ≡ true → c.channel.stage ≡ 2
verified-in2 c sound v = eqb-true c.channel.stage 2
    (the_second _ (eqb c.channel.stage 2) (not-true (is_zero c.pins.verified) v) (verified-stage c sound))

-- ---- LOAD past its checks: its supply
load-decides : (a : Arrived) (form : KeyForm) → a.command ≡ command.Load form → is_verified a.card.pins ≡ true
    → is_key_data form a.data' ≡ true
    → ((step6 a).supply ≡ load_supply) × ((step6 a).data' ≡ a.data')
unfolding step6 rule_of load_checks
load-decides a form e v k = (rw (e, v, k), rw (e, v, k))

abbrev pub number : Bool → ℕ
number b = cond b 0 3

pub refusal-by : (b : Bool) (t : AnswerOut) (c : Card) → t.refusal ≡ 0 → (cond b t (answer_refused c wrong_supply)).refusal ≡ number b
refusal-by true t c e = e
refusal-by false t c e = refl

module _ (c : Card) (cmd : List ℕ) (sound : is_sound c ≡ true) (x : Loading c cmd) where
  abbrev a : Arrived
  a = x.arrived

  is-step6 : decide c cmd ≡ step6 a
  unfolding decide
  is-step6 = ap finish x.there

  supply-is : (decide c cmd).supply ≡ load_supply
  supply-is = ap (λ (d : Decision). d.supply) is-step6 ∙ (load-decides a x.form x.asks x.verified x.formed).0

  data_is : (decide c cmd).data' ≡ a.data'
  data_is = ap (λ (d : Decision). d.data') is-step6 ∙ (load-decides a x.form x.asks x.verified x.formed).1

  pub asks-load : (room : ℕ) → 255 ≤ room → Asks c cmd room 6 a.data'
  unfolding ask_out
  asks-load room l = rw (sound, le-ltb room 255 l, supply-is, data_is)

  refusal_is : (s : List ℕ) (room : ℕ) → 258 ≤ room → (answer_out c cmd s room).refusal ≡ number (suits load_supply s)
  unfolding answer_out
  refusal_is s room l = rw (sound, le-ltb room 258 l, supply-is) (refusal-by (suits load_supply s) _ c refl)

  pub takes-load : (s : List ℕ) (room : ℕ) → 258 ≤ room → (answer_out c cmd s room).refusal ≡ 3 ↔ ((length s ≡ 66 → ⊥) ⊎ (1 < get_or s 0 0))
  unfolding suits
  takes-load s room l = rw (refusal_is s room l) (by (eqb (length s) 66) (leb (get_or s 0 0) 1) refl refl)
    where
      by : (m n : Bool) → eqb (length s) 66 ≡ m → leb (get_or s 0 0) 1 ≡ n → number (m && n) ≡ 3 ↔ ((length s ≡ 66 → ⊥) ⊎ (1 < get_or s 0 0))
      by true true e f = (
        λ r. absurd (omega (arith, r)),
        λ o. ⊎_elim (λ h. absurd (h (eqb-true (length s) 66 e))) (λ h. absurd (omega (arith, h, leb-true (get_or s 0 0) 1 f))) o,
      )
      by true false e f = (λ r. inr (leb-false (get_or s 0 0) 1 f), λ o. refl)
      by false n e f = (λ r. inl (eqb-false (length s) 66 e), λ o. refl)
