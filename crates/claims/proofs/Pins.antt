-- What ANSWER gives to a command over the channel, and the chain of four entries: three wrong ones take the tries from 3 to 0, and the
-- right PIN is then not compared.
-- Assumes nothing.
use mathlib.Core.Path.{◌≡◌, refl, sym, ap, ap₂, ◌∙◌, subst}
use mathlib.Core.Bool.{Bool, true, false}
use mathlib.Core.List.{List, [], ◌∷◌}
use Prim.Native.Nat.{ℕ, suc, ◌-◌}
use native.Mathlib.Omega.{arith}
use borrow.Author.Tests.{ne_eqb}
use lib.ListN.{take}
use Rattle.octets.specs.Bytes.{same_bytes}
use Rattle.octets.proofs.Lists.{same-eq}
use Rattle.template_rules.proofs.HeadFacts.{by-test}
use Rattle.channel_rules.specs.Terminal.{sealed_response}
use Rattle.card.specs.declared.Channel.{Channel}
use Rattle.card.specs.declared.Pins.{Pins}
use Rattle.card.specs.declared.Card.{Card}
use Rattle.card.specs.State.{with_pins, forgotten}
use Rattle.card.specs.Slots.{is_zero}
use Rattle.card.specs.Sound.{is_sound}
use Rattle.rules.specs.declared.Command.{Command}
use Rattle.rules.specs.declared.Command.TheVariants as command
use Rattle.rules.specs.Words.{tries_left, word, Hold, Reply, fails}
use Rattle.rules.specs.Supplies.{suits}
use Rattle.rules.specs.Commands.{pin_wrong, verify_checks, verify_reply, rule_of}
use Rattle.rules.specs.Channel.{session_of, with_mac, plain_text, sealed}
use Rattle.rules.specs.Steps.{begins, step1, Arrived, checks_of, supply_of}
use Rattle.rules.specs.Engine.{AnswerOut, answered_at, answer_out}
use Rattle.laws_engine.proofs.Sound.{answer-sound}
use Rattle.laws_exchange.specs.Opens.{outcome, fault_of}
use Rattle.laws_exchange.proofs.Answers.{arrived-in2, result-channel, answer-stage2}
use Rattle.laws_two_runs.proofs.Sealed.{step1-stage2}
use Rattle.claims.specs.Rows.{Sent, Gives, Entry, entered, after, OneWrong, ThreeWrong, spent, RightThen}

-- ---- any command over the channel
-- in stage 2 step 1 closes no channel; what it keeps, the card at step 6 has
pub here-keeps : (P : Card → Type 0) → ((x : Card) → P x → P (forgotten x)) → ((x : Card) (mac : List ℕ) → P x → P (with_mac x mac))
    → (c : Card) → c.channel.stage ≡ 2 → (v : Sent c) → P c → P v.opens.arrived.card
here-keeps P forget mac c in2 v h =
    subst P (sym ((arrived-in2 c v.bytes in2 v.opens).card v.opens.field v.opens.form))
    (mac (step1 v.bytes c) (take 16 v.opens.field)
    (subst P (sym (step1-stage2 c v.bytes in2)) (by-test P (begins 0x12 v.bytes) (λ t. h) (λ t. forget c h))))

module _ (c : Card) (sound : is_sound c ≡ true) (in2 : c.channel.stage ≡ 2) (v : Sent c) where
  abbrev x : Arrived
  x = v.opens.arrived

  abbrev said : Reply
  said = outcome x.command x.card x.data' v.supply

  said-channel : said.card.channel ≡ (with_mac c (take 16 v.opens.field)).channel
  said-channel = result-channel c v.bytes v.supply v.room sound v.enough v.opens in2

  module _ (right : Hold (checks_of x.command x.card x.data') → suits (supply_of x.command) v.supply ≡ true) where
    pub answer-is : answer_out c v.bytes v.supply v.room ≡ answered_at (fault_of x.command x.card x.data') (sealed said)
    answer-is = answer-stage2 c v.bytes v.supply v.room sound v.enough v.opens in2 right

    pub gives : (plain : List ℕ) → plain_text said ≡ plain → Gives c v plain
    gives plain e = record {
      taken = ap (λ (a : AnswerOut). a.refusal) answer-is;
      answer = ap (λ (a : AnswerOut). a.bytes) answer-is ∙ ap₂ sealed_response (ap session_of said-channel) e;
    }

-- ---- VERIFY at step 6
module _ (x : Card) (d s : List ℕ) where
  verify-wrong : is_zero x.pins.pin_tries ≡ false → same_bytes d x.pins.pin ≡ false
      → outcome command.Verify x d s ≡ fails (with_pins x (pin_wrong x.pins)) (tries_left (x.pins.pin_tries - 1))
  unfolding rule_of verify_checks verify_reply
  verify-wrong z w = rw (z, w)

  verify-spent : x.pins.pin_tries ≡ 0 → outcome command.Verify x d s ≡ fails x (tries_left 0)
  unfolding rule_of verify_checks
  verify-spent e = rw e

pub unlike : (s t : List ℕ) → (s ≡ t → ⊥) → same_bytes s t ≡ false
unlike s t n = go (same_bytes s t) refl
  where
    go : (b : Bool) → same_bytes s t ≡ b → b ≡ false
    go true e = absurd (n (same-eq s t e))
    go false e = refl

-- a sound card in stage 2 that is left with this PIN and these tries
pub record Left (n : Card) (p : List ℕ) (t : ℕ) : Type 0 where
  pub sound : is_sound n ≡ true
  pub stage : n.channel.stage ≡ 2
  pub pin : n.pins.pin ≡ p
  pub tries : n.pins.pin_tries ≡ t

module _ (c : Card) (pin : List ℕ) (v : Entry c) where
  abbrev here : Card
  here = v.sent.opens.arrived.card

  -- VERIFY reads no supply
  unread : Hold (checks_of v.sent.opens.arrived.command here (entered c v))
      → suits (supply_of v.sent.opens.arrived.command) v.sent.supply ≡ true
  unfolding rule_of suits
  unread e = ap (λ (k : Command). suits (supply_of k) v.sent.supply) v.verify

  -- at step 6 PIN and tries are the card's
  pins-here : c.channel.stage ≡ 2 → here.pins ≡ c.pins
  pins-here in2 = here-keeps (λ (y : Card). y.pins ≡ c.pins) (λ y h. h) (λ y mac h. h) c in2 v.sent refl

  module _ (l-sound : is_sound c ≡ true) (l-stage : c.channel.stage ≡ 2) where
    next-is : after c v ≡ (sealed (said c l-sound l-stage v.sent)).card
    next-is = ap (λ (a : AnswerOut). a.card) (answer-is c l-sound l-stage v.sent unread)

    said-is : (r : Reply) → outcome command.Verify here (entered c v) v.sent.supply ≡ r → said c l-sound l-stage v.sent ≡ r
    said-is r e = ap (λ (k : Command). outcome k here (entered c v) v.sent.supply) v.verify ∙ e

  pub wrong-entry : (t : ℕ) → Left c pin (suc t) → (entered c v ≡ pin → ⊥) → Gives c v.sent (word (tries_left t)) × Left (after c v) pin t
  wrong-entry t l w = (
    gives c l.sound l.stage v.sent unread (word (tries_left t)) (ap plain_text replied ∙ ap (λ (n : ℕ). word (tries_left n)) fewer),
    record {
      sound = answer-sound c v.sent.bytes v.sent.supply v.sent.room l.sound;
      stage = ap (λ (n : Card). n.channel.stage) (next-is l.sound l.stage)
          ∙ ap (λ (k : Channel). k.stage) (said-channel c l.sound l.stage v.sent) ∙ l.stage;
      pin = ap (λ (p : Pins). p.pin) pins-next ∙ l.pin;
      tries = ap (λ (p : Pins). p.pin_tries) pins-next ∙ omega (arith, l.tries);
    },
  )
    where
      tries-here : here.pins.pin_tries ≡ suc t
      tries-here = ap (λ (p : Pins). p.pin_tries) (pins-here l.stage) ∙ l.tries

      fewer : here.pins.pin_tries - 1 ≡ t
      fewer = omega (arith, tries-here)

      answer : Reply
      answer = fails (with_pins here (pin_wrong here.pins)) (tries_left (here.pins.pin_tries - 1))

      replied : said c l.sound l.stage v.sent ≡ answer
      replied = said-is l.sound l.stage answer
          (verify-wrong here (entered c v) v.sent.supply (ne_eqb here.pins.pin_tries 0 (λ z. omega (arith, tries-here)))
          (unlike (entered c v) here.pins.pin (λ e. w (e ∙ ap (λ (p : Pins). p.pin) (pins-here l.stage) ∙ l.pin))))

      pins-next : (after c v).pins ≡ pin_wrong c.pins
      pins-next =
          ap (λ (n : Card). n.pins) (next-is l.sound l.stage) ∙ ap (λ (r : Reply). r.card.pins) replied ∙ ap pin_wrong (pins-here l.stage)

  pub spent-entry : Left c pin 0 → Gives c v.sent (word (tries_left 0))
  spent-entry l =
      gives c l.sound l.stage v.sent unread (word (tries_left 0))
      (ap plain_text (said-is l.sound l.stage (fails here (tries_left 0))
      (verify-spent here (entered c v) v.sent.supply (ap (λ (p : Pins). p.pin_tries) (pins-here l.stage) ∙ l.tries))))

-- ---- the chain
module _ (c : Card) (e : OneWrong c) where
  one_left : Gives c e.first.sent (0x63 ∷ 0xC2 ∷ []) × Left (after c e.first) c.pins.pin 2
  one_left = wrong-entry c c.pins.pin e.first 2 (record { sound = e.sound; stage = e.stage; pin = refl; tries = e.tries }) e.wrong1

  pub first-wrong : Gives c e.first.sent (0x63 ∷ 0xC2 ∷ [])
  first-wrong = one_left.0

module _ (c : Card) (e : ThreeWrong c) where
  abbrev card1 : Card
  card1 = after c e.one.first

  abbrev card2 : Card
  card2 = after card1 e.second

  two-left : Gives card1 e.second.sent (0x63 ∷ 0xC1 ∷ []) × Left card2 c.pins.pin 1
  two-left = wrong-entry card1 c.pins.pin e.second 1 (one_left c e.one).1 e.wrong2

  none_left : Gives card2 e.third.sent (0x63 ∷ 0xC0 ∷ []) × Left (spent c e) c.pins.pin 0
  none_left = wrong-entry card2 c.pins.pin e.third 0 two-left.1 e.wrong3

  pub third-wrong : Gives card2 e.third.sent (0x63 ∷ 0xC0 ∷ [])
  third-wrong = none_left.0

pub right-then : (c : Card) (e : RightThen c) → Gives (spent c e.three) e.fourth.sent (0x63 ∷ 0xC0 ∷ [])
right-then c e = spent-entry (spent c e.three) c.pins.pin e.fourth (none_left c e.three).1
