-- How many slots there are and how many are free: the count over the indexes 0 to 7; and that a card which is not initialised has its slots free, and
-- keeps them at every call, INIT's own among them.
-- Assumes nothing.
use mathlib.Core.Path.{◌≡◌, refl, sym, ap, ◌∙◌, subst}
use mathlib.Core.Bool.{Bool, true, false, ◌&&◌, not, cond, false≢true}
use mathlib.Core.List.{List, [], ◌∷◌}
use mathlib.Core.Option.{Option, none, some}
use Prim.Native.Nat.{ℕ, zero, suc, ◌+◌}
use native.Mathlib.Omega.{arith}
use borrow.Author.Tests.{leb-true, eq-eqb}
use lib.Dec.{ltb, leb, eqb}
use lib.ListN.{length, get_or}
use Rattle.template_rules.proofs.HeadFacts.{by-test}
use Rattle.refusals.specs.Refusals.{answer_room}
use Rattle.card.specs.declared.Slot.{Slot}
use Rattle.card.specs.declared.Pairing.{Pairing}
use Rattle.card.specs.declared.Card.{Card}
use Rattle.card.specs.State.{free_slot}
use Rattle.card.specs.Slots.{all_of, all_zero, is_free, slot_within}
use Rattle.card.specs.Sound.{is_sound, pairing_blank}
use Rattle.card.specs.Shape.{Shaped}
use Rattle.card.proofs.Tests.{both}
use Rattle.card.proofs.Rules.{blank-rules}
use Rattle.rules.specs.declared.Instruction.{Instruction}
use Rattle.rules.specs.declared.Instruction.TheVariants as ins
use Rattle.rules.specs.declared.Command.{Command}
use Rattle.rules.specs.declared.Command.TheVariants as command
use Rattle.rules.specs.Results.{Verdict}
use Rattle.rules.specs.Words.{wrong_parameters, Reply, fails}
use Rattle.rules.specs.Supplies.{suits, says_yes, init_key}
use Rattle.rules.specs.Commands.{free_slots, select_reply, is_content, init_content, init_with, init_reply, rule_of}
use Rattle.rules.specs.Rows.{row_of, offered, is_plain}
use Rattle.rules.specs.Channel.{Outgoing, tell}
use Rattle.rules.specs.Steps.{Step, step1, p1_of, p2_of, is_initialised, Opened, Arrived, arrival, checks_of, supply_of, reply_of, Decision, by_verdict, step6, finish, decide}
use Rattle.rules.specs.Engine.{AnswerOut, answer_out}
use Rattle.laws_commands.proofs.Checks.{by-verdict}
use Rattle.laws_commands.proofs.Arrival.{At, card_at, lost_at, arrived_at, by-step5, by-opened, by-past_step1, ready}
use Rattle.laws_commands.proofs.Parts.{before-init}
use Rattle.laws_engine.proofs.Sound.{step1-keeps, begun-keeps, failed-keeps}
use Rattle.claims.specs.Rows.{Initialises, initialised}
use Rattle.claims.specs.Slots.{free_at}

-- ---- the count over the indexes
abbrev one : Slot → ℕ
one s = cond (is_free s) 1 0

-- the sum of f 0 to f (n - 1)
abbrev total : ℕ → (ℕ → ℕ) → ℕ
total zero f = 0
total (suc n) f = f 0 + total n (λ i. f (suc i))

count-indexes : (s : List Slot) → free_slots s ≡ total (length s) (λ i. one (get_or s i free_slot))
unfolding free_slots
count-indexes [] = refl
count-indexes (x ∷ s) = by (is_free x) (count-indexes s)
  where
    by : (b : Bool) {n m : ℕ} → n ≡ m → cond b (1 + n) n ≡ cond b 1 0 + m
    by true e = omega (arith, e)
    by false e = omega (arith, e)

pub counted : (c : Card) → Shaped c → free_slots c.pairing.slots
    ≡ free_at c 0 + free_at c 1 + free_at c 2 + free_at c 3 + free_at c 4 + free_at c 5 + free_at c 6 + free_at c 7
counted c h =
    count-indexes c.pairing.slots
    ∙ ap (λ (n : ℕ). total n (λ i. one (get_or c.pairing.slots i free_slot))) h.slots
    ∙ omega arith

-- ---- slots that are all free
all-free : (s : List Slot) → all_of (slot_within 0) s ≡ true → free_slots s ≡ length s
unfolding all_of free_slots
all-free [] e = refl
all-free (x ∷ s) e =
    let h = both (slot_within 0 x) (all_of (slot_within 0) s) e in
    let none : x.filled ≡ 0 = omega (arith, leb-true x.filled 0 (both (leb x.filled 0) _ h.0).0) in
    rw (eq-eqb x.filled 0 none) (omega (arith, all-free s h.1))

blank-slots : (p : Pairing) → pairing_blank p ≡ true → all_of (slot_within 0) p.slots ≡ true
blank-slots p e =
    let l = both _ _ e in
    let t = both _ _ l.0 in
    (both (all_zero p.secret) (all_of (slot_within 0) p.slots) t.0).1

-- ---- from a card c that is not initialised through the steps: they keep its slots, and do not initialise it
module _ (c : Card) where
  abbrev Bare : Card → Type 0
  Bare x = (is_initialised x ≡ false) × (x.pairing.slots ≡ c.pairing.slots)

  abbrev Same : Reply → Type 0
  Same r = r.card.pairing.slots ≡ c.pairing.slots

  tell-same : (over : Bool) (r : Reply) → Same r → (tell over r).card.pairing.slots ≡ c.pairing.slots
  unfolding tell
  tell-same over r h =
      by-test (λ (t : Outgoing). t.card.pairing.slots ≡ c.pairing.slots) (over && eqb r.card.channel.stage 2) (λ _. h) (λ _. h)

  -- the two commands that such a card has
  init-same : (x : Card) (o : Option (List ℕ)) → x.pairing.slots ≡ c.pairing.slots → Same (init_with x o)
  unfolding init_with
  init-same x none h = h
  init-same x (some y) h = by-test Same (is_content y) (λ _. h) (λ _. h)

  module _ (x : Card) (h : x.pairing.slots ≡ c.pairing.slots) (d s : List ℕ) where
    abbrev Keeps : Option Command → Type 0
    Keeps none = Unit {0}
    Keeps (some k) = Same (reply_of k x d s)

    select-keeps : Keeps (some command.Select)
    unfolding rule_of select_reply
    select-keeps = h

    init-keeps : Keeps (some command.Init)
    unfolding rule_of init_reply
    init-keeps = by-test Same (says_yes s) (λ _. init-same x (init_content (init_key s) d) h) (λ _. h)

    listed-keeps : (k : Command) (a b : Bool) → Keeps (some k) → Keeps (cond a (cond b (some k) none) none)
    listed-keeps k true true e = e
    listed-keeps k true false e = tt
    listed-keeps k false b e = tt

    pub row_keeps : (i : Instruction) (p1 p2 : ℕ) → offered (row_of i).offer false ≡ true → Keeps ((row_of i).lists p1 p2)
    row_keeps ins.Select p1 p2 e = listed-keeps command.Select (eqb p2 0) (eqb p1 4) select-keeps
    row_keeps ins.Init p1 p2 e = listed-keeps command.Init (eqb p2 0) (eqb p1 0) init-keeps
    row_keeps ins.Open p1 p2 e = absurd (false≢true e)
    row_keeps ins.Mutual p1 p2 e = absurd (false≢true e)
    row_keeps ins.Pair p1 p2 e = absurd (false≢true e)
    row_keeps ins.Unpair p1 p2 e = absurd (false≢true e)
    row_keeps ins.Status p1 p2 e = absurd (false≢true e)
    row_keeps ins.Verify p1 p2 e = absurd (false≢true e)
    row_keeps ins.Change p1 p2 e = absurd (false≢true e)
    row_keeps ins.Unblock p1 p2 e = absurd (false≢true e)
    row_keeps ins.Load p1 p2 e = absurd (false≢true e)
    row_keeps ins.Derive p1 p2 e = absurd (false≢true e)
    row_keeps ins.Remove p1 p2 e = absurd (false≢true e)
    row_keeps ins.SetPinless p1 p2 e = absurd (false≢true e)
    row_keeps ins.Sign p1 p2 e = absurd (false≢true e)
    row_keeps ins.Export p1 p2 e = absurd (false≢true e)
    row_keeps ins.SetNdef p1 p2 e = absurd (false≢true e)
    row_keeps ins.Mnemonic p1 p2 e = absurd (false≢true e)

  -- through the order of checks
  abbrev SameAt : Decision → Type 0
  SameAt d = (s : List ℕ) → (d.answer s).card.pairing.slots ≡ c.pairing.slots

  module _ (fresh : is_initialised c ≡ false) (cmd : List ℕ) where
    behind : Bare (step1 cmd c)
    behind = step1-keeps Bare (λ x b. b) (λ x b. b) cmd c (fresh, refl)

    module _ (x : At cmd (step1 cmd c)) where
      opened-bare : Bare x.opened.card
      opened-bare = by-opened (λ (o : Opened). Bare o.card) x.instruction cmd (step1 cmd c) x.field (λ p. behind) (λ p t d e. behind)
          x.opened x.opens

      here-bare : Bare (card_at x.instruction x.opened)
      here-bare = begun-keeps Bare (λ y b. b) (λ y b. b) (row_of x.instruction).loss x.opened.card opened-bare

      lost-same : (w : ℕ) (s : List ℕ)
          → (tell (not (is_plain x.instruction)) (fails (lost_at x.instruction cmd x.opened) w)).card.pairing.slots ≡ c.pairing.slots
      lost-same w s = tell-same (not (is_plain x.instruction)) (fails (lost_at x.instruction cmd x.opened) w)
          (failed-keeps Bare (λ y b. b) (λ y b. b) (row_of x.instruction).loss (p1_of cmd) (card_at x.instruction x.opened) here-bare).1

      step6-same : (k : Command) → (row_of x.instruction).lists (p1_of cmd) (p2_of cmd) ≡ some k
          → SameAt (step6 (arrived_at x.instruction cmd x.opened k))
      unfolding step6
      step6-same k l =
          by-verdict (λ (v : Verdict). SameAt (by_verdict (arrived_at x.instruction cmd x.opened k) v)) (supply_of k)
          (checks_of k (card_at x.instruction x.opened) x.opened.data')
          (λ h s. tell-same (not (is_plain x.instruction)) (reply_of k (card_at x.instruction x.opened) x.opened.data' s)
          (subst (Keeps (card_at x.instruction x.opened) here-bare.1 x.opened.data' s) l
          (row_keeps (card_at x.instruction x.opened) here-bare.1 x.opened.data' s x.instruction (p1_of cmd) (p2_of cmd) offer)))
          lost-same
        where
          offer : offered (row_of x.instruction).offer false ≡ true
          offer = ap (λ (b : Bool). offered (row_of x.instruction).offer b) (sym opened-bare.0) ∙ (ready cmd c x).offer

    decide-same : SameAt (decide c cmd)
    unfolding decide arrival
    decide-same = by-past_step1 (λ (y : Step Arrived). SameAt (finish y)) cmd (step1 cmd c) (λ w s. behind.1) (λ s. behind.1)
        (λ x. by-step5 (λ (y : Step Arrived). SameAt (finish y)) x.instruction cmd x.opened (lost-same x wrong_parameters) (step6-same x))

-- ---- ANSWER; where it refuses, the card is the one given
answer-same : (c : Card) (cmd s : List ℕ) (room : ℕ) → is_initialised c ≡ false
    → (answer_out c cmd s room).card.pairing.slots ≡ c.pairing.slots
unfolding answer_out
answer-same c cmd s room f =
    by-test Leads (is_sound c) (λ _. by-test Leads (ltb room answer_room) (λ _. refl)
    (λ _. by-test Leads (suits (decide c cmd).supply s) (λ _. decide-same c f cmd s) (λ _. refl)))
    (λ _. refl)
  where
    Leads : AnswerOut → Type 0
    Leads o = o.card.pairing.slots ≡ c.pairing.slots

pub after-init : (c : Card) (i : Initialises c) → Shaped c → free_slots (initialised c i).pairing.slots ≡ 8
after-init c i h =
    ap free_slots (answer-same c i.bytes i.supply i.room i.fresh)
    ∙ all-free c.pairing.slots (blank-slots c.pairing (blank-rules c (before-init c i.sound i.fresh).blank).pairing)
    ∙ h.slots
