-- From a sound card every next card is sound, and has its shape where the card has it: through the order of checks, then for ANSWER.
-- Assumes nothing.
use mathlib.Core.Path.{◌≡◌, refl}
use mathlib.Core.Bool.{Bool, true, false, ◌&&◌, not}
use mathlib.Core.Logic.{⊎_elim}
use mathlib.Core.List.{List}
use mathlib.Core.Option.{some}
use Prim.Native.Nat.{ℕ}
use native.Mathlib.Omega.{arith}
use lib.Dec.{ltb, leb, eqb}
use lib.ListN.{length, take}
use borrow.Author.Tests.{eqb-true, eqb-false, leb-true, ne_eqb}
use Rattle.template_rules.proofs.HeadFacts.{by-test}
use Rattle.refusals.specs.Refusals.{answer_room}
use Rattle.card.specs.declared.Card.{Card}
use Rattle.card.specs.State.{fresh_of, closed, forgotten, reset_of}
use Rattle.card.specs.Slots.{is_zero}
use Rattle.card.specs.Sound.{is_sound, channel_sound, session_zero}
use Rattle.card.specs.Shape.{Shaped}
use Rattle.card.proofs.Tests.{both}
use Rattle.card.proofs.Rules.{parts-rules, blank-rules, sound-cases}
use Rattle.card.proofs.ShapeFacts.{fresh-shape}
use Rattle.rules.specs.declared.Instruction.{Instruction}
use Rattle.rules.specs.declared.Loss.{Loss}
use Rattle.rules.specs.declared.Loss.TheVariants as loss
use Rattle.rules.specs.declared.Command.{Command}
use Rattle.rules.specs.Results.{Verdict}
use Rattle.rules.specs.Words.{wrong_parameters, Reply, fails}
use Rattle.rules.specs.Supplies.{suits}
use Rattle.rules.specs.Rows.{row_of, is_plain}
use Rattle.rules.specs.Channel.{with_mac, Outgoing, tell}
use Rattle.rules.specs.Steps.{Step, goes, stops, begins, dropping, step1, p1_of, p2_of, Opened, in_stage, begun, failed, Arrived, step5, past_step1, arrival, checks_of, supply_of, reply_of, Decision, by_verdict, step6, finish, decide}
use Rattle.rules.specs.Engine.{AnswerOut, answer_out}
use Rattle.laws_commands.specs.Lawful.{Fit, Ready}
use Rattle.laws_commands.proofs.Checks.{by-verdict}
use Rattle.laws_commands.proofs.Arrival.{At, card_at, lost_at, arrived_at, by-step5, by-opened, by-past_step1, ready}
use Rattle.laws_commands.proofs.Parts.{itself-fit, channel-kept, closed-sound, forgotten-sound, closed-shaped, forgotten-shaped, channel-shaped, closed-fit, forgotten-fit}
use Rattle.laws_commands.proofs.Table.{lawful}

-- ---- step 1, and what is given up at steps 5 and 6: what closing the channel and forgetting the pending pairing keep
module _ (P : Card → Type 0) (close : (c : Card) → P c → P (closed c)) (forget : (c : Card) → P c → P (forgotten c)) where
  drop_keeps : (cmd : List ℕ) (c : Card) → P c → P (dropping cmd c)
  drop_keeps cmd c f = by-test P (eqb c.channel.stage 1 && not (begins 0x11 cmd)) (λ e. close c f) (λ e. f)

  pub step1-keeps : (cmd : List ℕ) (c : Card) → P c → P (step1 cmd c)
  unfolding step1
  step1-keeps cmd c f =
      by-test P (begins 0x12 cmd) (λ e. drop_keeps cmd c f) (λ e. forget (dropping cmd c) (drop_keeps cmd c f))

  pub begun-keeps : (l : Loss) (c : Card) → P c → P (begun l c)
  begun-keeps loss.Channel c f = close c f
  begun-keeps loss.HalfOpen c f = f
  begun-keeps loss.Pending c f = f
  begun-keeps loss.Nothing c f = f

  pub failed-keeps : (l : Loss) (p1 : ℕ) (c : Card) → P c → P (failed l p1 c)
  failed-keeps loss.Channel p1 c f = f
  failed-keeps loss.HalfOpen p1 c f = by-test P (eqb c.channel.stage 2) (λ e. f) (λ e. close c f)
  failed-keeps loss.Pending p1 c f = by-test P (eqb p1 1) (λ e. forget c f) (λ e. f)
  failed-keeps loss.Nothing p1 c f = f

pub step1-sound : (cmd : List ℕ) (c : Card) → is_sound c ≡ true → is_sound (step1 cmd c) ≡ true
step1-sound = step1-keeps (λ (c : Card). is_sound c ≡ true) closed-sound forgotten-sound

pub step1-shaped : (cmd : List ℕ) (c : Card) → Shaped c → Shaped (step1 cmd c)
step1-shaped = step1-keeps Shaped closed-shaped forgotten-shaped

-- ---- the next IV: soundness reads it in stage 0 alone
pub mac-sound : (c : Card) (mac : List ℕ) → is_sound c ≡ true → (c.channel.stage ≡ 0 → ⊥) → is_sound (with_mac c mac) ≡ true
mac-sound c mac e n = ⊎_elim
    (λ b.
    let h = both (is_zero c.channel.stage) (session_zero c.channel) (blank-rules c b.blank).channel in
    absurd (n (eqb-true c.channel.stage 0 h.0)))
    (λ a.
    let r = parts-rules c a.parts in
    channel-kept c a (with_mac c mac).channel (within r.channel) r.pending r.verified)
    (sound-cases c e)
  where
    within : channel_sound c.channel ≡ true → channel_sound (with_mac c mac).channel ≡ true
    within h = rw ((both (leb c.channel.stage 2) _ h).0, ne_eqb c.channel.stage 0 n)

pub mac-shaped : (c : Card) (mac : List ℕ) → Shaped c → Shaped (with_mac c mac)
mac-shaped c mac h = channel-shaped c h (with_mac c mac).channel

-- ---- from the card g through the steps
module _ (g : Card) where
  mac-fit : (c : Card) (mac : List ℕ) → Fit g c → (c.channel.stage ≡ 0 → ⊥) → Fit g (with_mac c mac)
  mac-fit c mac f n = record { sound = mac-sound c mac f.sound n; shaped = λ w. mac-shaped c mac (f.shaped w) }

  -- ---- how an answer goes out
  abbrev Leaves : Outgoing → Type 0
  Leaves t = Fit g t.card

  tell-keeps : (over : Bool) (r : Reply) → Fit g r.card → Leaves (tell over r)
  unfolding tell
  tell-keeps over r f = by-test Leaves (over && eqb r.card.channel.stage 2)
      (λ e. mac-fit r.card _ f (λ z. omega (arith, eqb-true r.card.channel.stage 2 (both over _ e).1)))
      (λ e. f)

  -- ---- whatever supply has the form, the answer leaves a sound card that has its shape
  abbrev Fine : Decision → Type 0
  Fine d = (s : List ℕ) → suits d.supply s ≡ true → Leaves (d.answer s)

  -- the card after step 4
  pub opened-fit : (cmd : List ℕ) (c : Card) → Fit g c → (x : At cmd c) → Fit g x.opened.card
  opened-fit cmd c f x = by-opened (λ (o : Opened). Fit g o.card) x.instruction cmd c x.field (λ p. f)
      (λ p t d e. mac-fit c (take 16 x.field) f (open-stage p t)) x.opened x.opens
    where
      open-stage : is_plain x.instruction ≡ false → in_stage x.instruction c.channel.stage ≡ true → c.channel.stage ≡ 0 → ⊥
      open-stage e t z =
          eqb-false (row_of x.instruction).stage 0 e
          (omega (arith, leb-true (row_of x.instruction).stage c.channel.stage t))

  step6-fine : (i : Instruction) (cmd : List ℕ) (o : Opened) (k : Command) → (row_of i).lists (p1_of cmd) (p2_of cmd) ≡ some k
      → Fit g o.card → Fit g (lost_at i cmd o) → Ready i o.card → Fine (step6 (arrived_at i cmd o k))
  unfolding step6
  step6-fine i cmd o k e f l r =
      by-verdict (λ (v : Verdict). Fine (by_verdict (arrived_at i cmd o k) v)) (supply_of k) (checks_of k (card_at i o) o.data')
      (λ h s u. tell-keeps (not (is_plain i)) (reply_of k (card_at i o) o.data' s)
      ((lawful i (p1_of cmd) (p2_of cmd) k e).keeps g o.card o.data' s f r h u))
      (λ w s u. tell-keeps (not (is_plain i)) (fails (lost_at i cmd o) w) l)

  decide-fit : (c : Card) (cmd : List ℕ) → Fit g c → Fine (decide c cmd)
  unfolding decide arrival
  decide-fit c cmd f =
      let f1 = step1-keeps (Fit g) (closed-fit g) (forgotten-fit g) cmd c f in
      by-past_step1 (λ (x : Step Arrived). Fine (finish x)) cmd (step1 cmd c) (λ w s u. f1) (λ s u. closed-fit g (step1 cmd c) f1)
      (λ x.
      let o = opened-fit cmd (step1 cmd c) f1 x in
      let i = x.instruction in
      let b = begun-keeps (Fit g) (closed-fit g) (forgotten-fit g) (row_of i).loss x.opened.card o in
      let l = failed-keeps (Fit g) (closed-fit g) (forgotten-fit g) (row_of i).loss (p1_of cmd) (card_at i x.opened) b in
      by-step5 (λ (y : Step Arrived). Fine (finish y)) i cmd x.opened
      (λ s u. tell-keeps (not (is_plain i)) (fails (lost_at i cmd x.opened) wrong_parameters) l)
      (λ k e. step6-fine i cmd x.opened k e o l (ready cmd c x)))

-- ---- the order of checks keeps soundness and shape
pub decide-sound : (c : Card) (cmd s : List ℕ) → is_sound c ≡ true → suits (decide c cmd).supply s ≡ true
    → is_sound ((decide c cmd).answer s).card ≡ true
decide-sound c cmd s e u = (decide-fit c c cmd (itself-fit c e) s u).sound

pub decide-shaped : (c : Card) (cmd s : List ℕ) → is_sound c ≡ true → Shaped c → suits (decide c cmd).supply s ≡ true
    → Shaped ((decide c cmd).answer s).card
decide-shaped c cmd s e h u = (decide-fit c c cmd (itself-fit c e) s u).shaped h

-- ---- ANSWER keeps soundness and shape, refusals included
answer-fit : (c : Card) (cmd s : List ℕ) (room : ℕ) → is_sound c ≡ true → Fit c (answer_out c cmd s room).card
unfolding answer_out
answer-fit c cmd s room e = by-test Leads (is_sound c)
    (λ h. by-test Leads (ltb room answer_room) (λ t. itself-fit c e)
    (λ t. by-test Leads (suits (decide c cmd).supply s) (λ u. decide-fit c c cmd (itself-fit c e) s u) (λ u. itself-fit c e)))
    (λ h. itself-fit c e)
  where
    Leads : AnswerOut → Type 0
    Leads o = Fit c o.card

pub answer-sound : (c : Card) (cmd s : List ℕ) (room : ℕ) → is_sound c ≡ true → is_sound (answer_out c cmd s room).card ≡ true
answer-sound c cmd s room e = (answer-fit c cmd s room e).sound

pub answer-shaped : (c : Card) (cmd s : List ℕ) (room : ℕ) → is_sound c ≡ true → Shaped c → Shaped (answer_out c cmd s room).card
answer-shaped c cmd s room e h = (answer-fit c cmd s room e).shaped h

-- ---- FRESH has the shape, and RESET keeps it; that both are sound is shown in crate `card`
pub fresh-shaped : (uid key : List ℕ) → length uid ≡ 16 → length key ≡ 65 → Shaped (fresh_of uid key)
fresh-shaped = fresh-shape

pub reset-shaped : (c : Card) → Shaped c → Shaped (reset_of c)
reset-shaped c h = record {
  uid = h.uid;
  public_key = h.public_key;
  pin = h.pin;
  puk = h.puk;
  secret = h.secret;
  slots = h.slots;
  keys = h.keys;
  expected = refl;
  keyuid = h.keyuid;
  current = h.current;
  pinless = h.pinless;
  tap = h.tap;
}
