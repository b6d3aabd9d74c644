-- A call that makes an initialised card of one that was not leaves 3 and 5 tries and no key: steps 1 to 5 leave the card not initialised and
-- without a key, and every command that such a card has is lawful.
-- Assumes nothing.
use mathlib.Core.Path.{◌≡◌, sym, ap, ◌∙◌}
use mathlib.Core.Bool.{Bool, true, false, ◌&&◌, not, false≢true}
use mathlib.Core.List.{List}
use mathlib.Core.Option.{some}
use Prim.Native.Nat.{ℕ}
use lib.Dec.{ltb, eqb}
use Rattle.template_rules.proofs.HeadFacts.{by-test}
use Rattle.refusals.specs.Refusals.{answer_room}
use Rattle.card.specs.declared.Card.{Card}
use Rattle.card.specs.Sound.{is_sound}
use Rattle.card.proofs.Rules.{blank-rules, keys-blank}
use Rattle.rules.specs.declared.Command.{Command}
use Rattle.rules.specs.Results.{Verdict}
use Rattle.rules.specs.Words.{wrong_parameters, Reply, fails}
use Rattle.rules.specs.Supplies.{suits}
use Rattle.rules.specs.Rows.{row_of, offered, is_plain}
use Rattle.rules.specs.Channel.{Outgoing, tell}
use Rattle.rules.specs.Steps.{Step, step1, p1_of, p2_of, is_initialised, Opened, Arrived, arrival, checks_of, supply_of, reply_of, Decision, by_verdict, step6, finish, decide}
use Rattle.rules.specs.Engine.{AnswerOut, answer_out}
use Rattle.laws_commands.specs.Lawful.{Full, Filled}
use Rattle.laws_commands.proofs.Checks.{by-verdict}
use Rattle.laws_commands.proofs.Arrival.{At, card_at, lost_at, arrived_at, by-step5, by-opened, by-past_step1, ready}
use Rattle.laws_commands.proofs.Parts.{before-init}
use Rattle.laws_commands.proofs.Table.{lawful}
use Rattle.laws_engine.proofs.Sound.{step1-keeps, begun-keeps, failed-keeps}

-- a card that is not initialised and has no key
abbrev Bare : Card → Type 0
Bare c = (is_initialised c ≡ false) × (c.keys.kind ≡ 0)

not_yet : (c : Card) → Bare c → Filled c
not_yet c b e = absurd (false≢true (sym b.0 ∙ e))

-- ---- how an answer goes out
tell-fills : (over : Bool) (r : Reply) → Filled r.card → Filled (tell over r).card
unfolding tell
tell-fills over r h = by-test (λ (t : Outgoing). Filled t.card) (over && eqb r.card.channel.stage 2)
    (λ e t. let f = h t in record { pin = f.pin; puk = f.puk; key = f.key }) (λ e. h)

-- ---- through the steps
abbrev Fills : Decision → Type 0
Fills d = (s : List ℕ) → Filled (d.answer s).card

module _ (c : Card) (bare : Bare c) (cmd : List ℕ) where
  behind : Bare (step1 cmd c)
  behind = step1-keeps Bare (λ x b. b) (λ x b. b) cmd c bare

  module _ (x : At cmd (step1 cmd c)) where
    opened-bare : Bare x.opened.card
    opened-bare = by-opened (λ (o : Opened). Bare o.card) x.instruction cmd (step1 cmd c) x.field (λ p. behind) (λ p t d e. behind)
        x.opened x.opens

    here-bare : Bare (card_at x.instruction x.opened)
    here-bare = begun-keeps Bare (λ y b. b) (λ y b. b) (row_of x.instruction).loss x.opened.card opened-bare

    lost-fills : (w : ℕ) (s : List ℕ) → Filled (tell (not (is_plain x.instruction)) (fails (lost_at x.instruction cmd x.opened) w)).card
    lost-fills w s = tell-fills (not (is_plain x.instruction)) (fails (lost_at x.instruction cmd x.opened) w)
        (not_yet (lost_at x.instruction cmd x.opened)
        (failed-keeps Bare (λ y b. b) (λ y b. b) (row_of x.instruction).loss (p1_of cmd) (card_at x.instruction x.opened) here-bare))

    step6-fills : (k : Command) → (row_of x.instruction).lists (p1_of cmd) (p2_of cmd) ≡ some k
        → Fills (step6 (arrived_at x.instruction cmd x.opened k))
    unfolding step6
    step6-fills k l =
        by-verdict (λ (v : Verdict). Fills (by_verdict (arrived_at x.instruction cmd x.opened k) v)) (supply_of k)
        (checks_of k (card_at x.instruction x.opened) x.opened.data')
        (λ h s. tell-fills (not (is_plain x.instruction)) (reply_of k (card_at x.instruction x.opened) x.opened.data' s)
        ((lawful x.instruction (p1_of cmd) (p2_of cmd) k l).fresh offer (card_at x.instruction x.opened) here-bare.0 here-bare.1
        x.opened.data' s))
        lost-fills
      where
        offer : offered (row_of x.instruction).offer false ≡ true
        offer = ap (λ (b : Bool). offered (row_of x.instruction).offer b) (sym opened-bare.0) ∙ (ready cmd c x).offer

  decide-fills : Fills (decide c cmd)
  unfolding decide arrival
  decide-fills = by-past_step1 (λ (y : Step Arrived). Fills (finish y)) cmd (step1 cmd c) (λ w s. not_yet (step1 cmd c) behind)
      (λ s. not_yet _ behind)
      (λ x. by-step5 (λ (y : Step Arrived). Fills (finish y)) x.instruction cmd x.opened (lost-fills x wrong_parameters) (step6-fills x))

pub init-full : (c : Card) (cmd s : List ℕ) (room : ℕ) → is_sound c ≡ true → is_initialised c ≡ false
    → is_initialised (answer_out c cmd s room).card ≡ true → Full (answer_out c cmd s room).card
unfolding answer_out
init-full c cmd s room e f =
    by-test Leads (is_sound c) (λ t. by-test Leads (ltb room answer_room) (λ u. not_yet c bare)
    (λ u. by-test Leads (suits (decide c cmd).supply s) (λ w. decide-fills c bare cmd s) (λ w. not_yet c bare)))
    (λ t. not_yet c bare)
  where
    Leads : AnswerOut → Type 0
    Leads o = Filled o.card

    bare : Bare c
    bare = (f, (keys-blank c.keys (blank-rules c (before-init c e f).blank).keys).kind)
