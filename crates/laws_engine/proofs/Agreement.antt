-- ASK and ANSWER agree: the supply that ASK names is the one that ANSWER reads, its data are those of the command that arrives, and where none is
-- read the supply does not matter. Assumes nothing.
use mathlib.Core.Path.{◌≡◌, refl, sym, ap, ◌∙◌}
use mathlib.Core.Bool.{Bool, true, false, not, ◌||◌}
use mathlib.Core.List.{List, []}
use mathlib.Core.Logic.{◌↔◌}
use mathlib.Core.Option.{some}
use Prim.Native.Nat.{ℕ, ◌≤◌}
use native.Mathlib.Omega.{arith}
use lib.Dec.{eqb}
use borrow.Author.Tests.{le-ltb, ne_eqb}
use Rattle.card.specs.declared.Card.{Card}
use Rattle.card.specs.Sound.{is_sound}
use Rattle.rules.specs.declared.Instruction.{Instruction}
use Rattle.rules.specs.declared.Command.{Command}
use Rattle.rules.specs.Results.{Verdict}
use Rattle.rules.specs.Words.{fails, wrong_parameters}
use Rattle.rules.specs.Supplies.{suits}
use Rattle.rules.specs.Rows.{row_of, is_plain}
use Rattle.rules.specs.Channel.{Outgoing, plainly, tell}
use Rattle.rules.specs.Steps.{Step, goes, stops, step1, p1_of, p2_of, Opened, Arrived, arrival, checks_of, supply_of, Decision, ends_at, by_verdict, step6, finish, decide}
use Rattle.rules.specs.Engine.{asked, answered_at, with_supply, ask_out, answer_out}
use Rattle.laws_commands.proofs.Checks.{by-verdict}
use Rattle.laws_commands.proofs.Arrival.{At, card_at, arrived_at, by-step5, by-past_step1}
use Rattle.laws_commands.proofs.Table.{lawful}
use Rattle.laws_engine.proofs.Refusals.{answer-supply}

-- ---- what is decided where steps 1 to 5 lead to x
record Regular (x : Step Arrived) (d : Decision) : Type 0 where
  unread : d.supply.kind ≡ 0 → (s t : List ℕ) → d.answer s ≡ d.answer t
  given : (d.supply.kind ≡ 0 → ⊥) → (a : Arrived) × (x ≡ goes a) × (d.data' ≡ a.data')

ends-regular : (x : Step Arrived) {n : ℕ} (t : Outgoing) → Regular x (ends_at n t)
ends-regular x t = record { unread = λ e s u. refl; given = λ n. absurd (n refl) }

step6-regular : (i : Instruction) (cmd : List ℕ) (o : Opened) (k : Command) → (row_of i).lists (p1_of cmd) (p2_of cmd) ≡ some k
    → Regular (goes (arrived_at i cmd o k)) (step6 (arrived_at i cmd o k))
unfolding step6
step6-regular i cmd o k e =
    let a = arrived_at i cmd o k in
    by-verdict (λ (v : Verdict). Regular (goes a) (by_verdict a v)) (supply_of k) (checks_of k (card_at i o) o.data')
    (λ h. record {
      unread = λ z s t. ap (tell (not (is_plain i))) ((lawful i (p1_of cmd) (p2_of cmd) k e).unread (card_at i o) o.data' s t z);
      given = λ n. (a, refl, refl);
    })
    (λ w. ends-regular (goes a) (tell (not (is_plain i)) (fails a.lost w)))

decide-regular : (c : Card) (cmd : List ℕ) → Regular (arrival c cmd) (decide c cmd)
unfolding decide arrival
decide-regular c cmd = by-past_step1 (λ (x : Step Arrived). Regular x (finish x)) cmd (step1 cmd c) (λ w. ends-regular _ _) (ends-regular _ _)
    (λ x. by-step5 (λ (y : Step Arrived). Regular y (finish y)) x.instruction cmd x.opened (ends-regular _ _)
    (λ k e. step6-regular x.instruction cmd x.opened k e))

-- ---- ASK, for a sound card and with room
module _ (c : Card) (cmd : List ℕ) (room : ℕ) (e : is_sound c ≡ true) (a : 255 ≤ room) where
  ask-is : ask_out c cmd room ≡ asked (decide c cmd)
  unfolding ask_out
  ask-is = rw (e, le-ltb room 255 a)

  -- ASK names the kind of the supply that ANSWER reads
  pub kind-is : (ask_out c cmd room).kind ≡ (decide c cmd).supply.kind
  kind-is = rw ask-is

  -- a kind that is not 0 comes with the data of the command that arrives
  pub ask-data : ((ask_out c cmd room).kind ≡ 0 → ⊥) → (a : Arrived) × (arrival c cmd ≡ goes a) × ((ask_out c cmd room).bytes ≡ a.data')
  ask-data n =
      let r = (decide-regular c cmd).given read in
      (r.0, r.1, rw (ask-is, ne_eqb (decide c cmd).supply.kind 0 read) r.2)
    where
      read : (decide c cmd).supply.kind ≡ 0 → ⊥
      read z = n (kind-is ∙ z)

  -- kind 0 comes without bytes
  pub ask-empty : (ask_out c cmd room).kind ≡ 0 → (ask_out c cmd room).bytes ≡ []
  ask-empty z = rw (ask-is, sym kind-is ∙ z)

-- ---- ASK and ANSWER, for a sound card and with room for both
module _ (c : Card) (cmd : List ℕ) (r1 r2 : ℕ) (e : is_sound c ≡ true) (a : 255 ≤ r1) (b : 258 ≤ r2) where
  answer-is : (s : List ℕ) → answer_out c cmd s r2 ≡ with_supply c (decide c cmd) s
  unfolding answer_out
  answer-is s = rw (e, le-ltb r2 258 b)

  taken : (ask_out c cmd r1).kind ≡ 0 → (s : List ℕ) → with_supply c (decide c cmd) s ≡ answered_at (decide c cmd).fault_offset ((decide c cmd).answer s)
  unfolding suits
  taken z s = rw (sym (kind-is c cmd r1 e a) ∙ z)

  -- kind 0: ANSWER does not refuse, and gives the same for every supply
  pub unread-taken : (ask_out c cmd r1).kind ≡ 0 → (s : List ℕ) → (answer_out c cmd s r2).refusal ≡ 0
  unread-taken z s = rw (answer-is s, taken z s)

  pub unread-same : (ask_out c cmd r1).kind ≡ 0 → (s t : List ℕ) → answer_out c cmd s r2 ≡ answer_out c cmd t r2
  unread-same z s t =
      answer-is s ∙ taken z s
      ∙ ap (answered_at (decide c cmd).fault_offset) ((decide-regular c cmd).unread (sym (kind-is c cmd r1 e a) ∙ z) s t)
      ∙ sym (answer-is t ∙ taken z t)

  -- ANSWER gives refusal 3 exactly where the supply has not the form of the one that is asked for, and no refusal otherwise
  pub read-refused : (s : List ℕ) → (answer_out c cmd s r2).refusal ≡ 3 ↔ suits (decide c cmd).supply s ≡ false
  read-refused s = (λ h. ((answer-supply c cmd s r2).0 h).2, λ h. (answer-supply c cmd s r2).1 (e, b, h))

  pub read_taken : (s : List ℕ) → (answer_out c cmd s r2).refusal ≡ 0 ↔ suits (decide c cmd).supply s ≡ true
  read_taken s = (λ h. by_form (suits (decide c cmd).supply s) refl h, λ h. rw (answer-is s, h))
    where
      by_form : (t : Bool) → suits (decide c cmd).supply s ≡ t → (answer_out c cmd s r2).refusal ≡ 0 → t ≡ true
      by_form true z h = refl
      by_form false z h = absurd (omega (arith, (answer-supply c cmd s r2).1 (e, b, z)))
