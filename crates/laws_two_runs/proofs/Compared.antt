-- What a comparison has to do with the answer: where none is made, the answer and the next card but for PIN and PUK do not depend on PIN and
-- PUK; where one is made, the call is not refused, and its answer is the one that the command's rule has for right or for wrong, since the
-- comparison follows from that rule where its checks hold.
-- Assumes nothing.
use mathlib.Core.Path.{◌≡◌, refl, sym, ap, ◌∙◌, subst}
use mathlib.Core.Bool.{Bool, true, false}
use mathlib.Core.List.{List}
use mathlib.Core.Option.{Option, none, some}
use Prim.Native.Nat.{ℕ, ◌≤◌}
use native.Mathlib.Omega.{arith}
use borrow.Author.Tests.{le-ltb}
use lib.ListN.{length, take}
use Rattle.refusals.specs.Refusals.{answer_room}
use Rattle.card.specs.declared.Pins.{Pins}
use Rattle.card.specs.declared.Card.{Card}
use Rattle.card.specs.Sound.{is_sound}
use Rattle.rules.specs.declared.Instruction.{Instruction}
use Rattle.rules.specs.declared.Command.{Command}
use Rattle.rules.specs.Results.{Verdict}
use Rattle.rules.specs.Words.{Hold}
use Rattle.rules.specs.Supplies.{no_supply, suits}
use Rattle.rules.specs.Rules.{Secret, pin, puk, right_by, no_fault}
use Rattle.rules.specs.Rows.{row_of, is_plain}
use Rattle.rules.specs.Commands.{rule_of}
use Rattle.rules.specs.Channel.{with_mac, Outgoing, tell}
use Rattle.rules.specs.Steps.{Step, goes, step1, p1_of, p2_of, Arrived, arrival, checks_of, supply_of, reply_of, Decision, step6, finish, decide}
use Rattle.rules.specs.Engine.{answered, answer_out}
use Rattle.rules.specs.Comparison.{Comparison, compared, compared_by, compared_at6, compared_past, comparison}
use Rattle.laws_commands.specs.Lawful.{Lawful}
use Rattle.laws_commands.proofs.Arrival.{At, arrived_at}
use Rattle.laws_commands.proofs.Checks.{never, by-verdict, held}
use Rattle.laws_commands.proofs.Table.{lawful, command_of, only-compares}
use Rattle.laws_two_runs.specs.Compared.{reply_by, Compared}
use Rattle.laws_two_runs.specs.Runs.{Call, answer, comparison_at, Agree}
use Rattle.laws_two_runs.proofs.Erasure.{step1-pins}
use Rattle.laws_two_runs.proofs.Order.{by-arrival, right-unverified}
use Rattle.laws_two_runs.proofs.Calls.{StepSame, call_same}
use Rattle.laws_two_runs.proofs.Over.{opened-over, card-over}

-- ---- where none is made
pub none_made : (c d : Card) (k : Call) → is_sound c ≡ true → is_sound d ≡ true → Agree c d → comparison_at c k ≡ none → StepSame c d k
none_made c d k sc sd a e = call_same c d k sc sd a (λ x y i j. never x (sym e ∙ i))

-- ---- a decision that reads no supply
abbrev pub deciding : List ℕ → Outgoing → Decision
deciding d t = record { supply = no_supply; data' = d; answer = λ _. t; fault_offset = no_fault }

-- ---- step 6: where the checks hold, the command replies; the one that compares replies by how that came out
abbrev pub replying : Arrived → Command → Decision
replying a k = record { supply = supply_of k; data' = a.data'; answer = λ s. tell a.over (reply_of k a.card a.data' s); fault_offset = no_fault }

pub step6-replies : (a : Arrived) → Hold (checks_of a.command a.card a.data') → step6 a ≡ replying a a.command
unfolding step6
step6-replies a h = rw (held (supply_of a.command) (checks_of a.command a.card a.data') h)

by-secret : (s : Secret) (a : Arrived)
    → replying a (command_of s) ≡ deciding a.data' (tell a.over (reply_by s (right_by s a.card.pins a.data') a.card a.data'))
unfolding rule_of
by-secret pin a = refl
by-secret puk a = refl

-- a comparison that is made is the one of the command's rule, where its checks hold
pub record At6 (p : Pins) (a : Arrived) (x : Comparison) : Type 0 where
  pub right : x.right ≡ right_by x.of p a.data'
  pub compares : (rule_of a.command).compares ≡ some x.of
  pub checked : Hold (checks_of a.command a.card a.data')

module _ (p : Pins) (a : Arrived) (x : Comparison) where
  compared_is : (o : Option Secret) → (rule_of a.command).compares ≡ o → Hold (checks_of a.command a.card a.data')
      → compared o p a.data' ≡ some x → At6 p a x
  compared_is none i h e = never x e
  compared_is (some s) i h e =
      let same : ◌≡◌ {A = Comparison} (record { of = s; right = right_by s p a.data' }) x = cc in
      subst (At6 p a) same (record { right = refl; compares = i; checked = h })

  pub at6 : compared_at6 p a ≡ some x → At6 p a x
  at6 = by-verdict (λ (v : Verdict). compared_by p a v ≡ some x → At6 p a x) (supply_of a.command) (checks_of a.command a.card a.data')
      (λ h e. compared_is (rule_of a.command).compares refl h e) (λ w e. never x e)

-- ---- the whole
module _ (c : Card) (cmd : List ℕ) (x : Comparison) where
  -- a command that compares needs stage 2, and so is not plain
  over-channel : (i : Instruction) (k : Command) → Lawful i k → (rule_of k).compares ≡ some x.of → is_plain i ≡ false
  over-channel i k l e = rw (l.compares x.of e)

  made_at : (y : At cmd (step1 cmd c)) (k : Command) → (row_of y.instruction).lists (p1_of cmd) (p2_of cmd) ≡ some k
      → arrival c cmd ≡ goes (arrived_at y.instruction cmd y.opened k)
      → compared_at6 c.pins (arrived_at y.instruction cmd y.opened k) ≡ some x
      → Compared c cmd x
  unfolding decide
  made_at y k listed e m =
      let a : Arrived = arrived_at y.instruction cmd y.opened k in
      let h : At6 c.pins a x = at6 c.pins a x m in
      let l : Lawful y.instruction k = lawful y.instruction (p1_of cmd) (p2_of cmd) k listed in
      let over : is_plain y.instruction ≡ false = over-channel y.instruction k l h.compares in
      let opened : Card = with_mac (step1 cmd c) (take 16 y.field) in
      let right : right_by x.of (step1 cmd c).pins y.opened.data' ≡ x.right =
      sym (right-unverified x.of (step1 cmd c).pins y.opened.data')
      ∙ ap (λ (p : Pins). right_by x.of p y.opened.data') (step1-pins cmd c)
      ∙ right-unverified x.of c.pins y.opened.data'
      ∙ sym h.right in
      record {
        field = y.field;
        data' = y.opened.data';
        form = y.form;
        opens = (opened-over c cmd y over).0;
        right = h.right;
        told = tell true (reply_by x.of x.right opened y.opened.data');
        tells = refl;
        decides =
            ap finish e
            ∙ step6-replies a h.checked
            ∙ ap (replying a) (only-compares k x.of h.compares)
            ∙ by-secret x.of a
            ∙ ap (deciding a.data') (rw (over, card-over c cmd y over, right));
      }

  pub one-made : comparison c cmd ≡ some x → Compared c cmd x
  unfolding comparison
  one-made e = by-arrival (λ (s : Step Arrived). arrival c cmd ≡ s → compared_past c.pins s ≡ some x → Compared c cmd x) c cmd
      (λ t _ m. never x m) made_at refl e

-- the call is answered so wherever there is room, whatever the supply
pub one-answers : (c : Card) (cmd s : List ℕ) (room : ℕ) (x : Comparison) → is_sound c ≡ true → answer_room ≤ room → (r : Compared c cmd x)
    → answer_out c cmd s room ≡ answered r.told
unfolding answer_out suits
one-answers c cmd s room x e l r = rw (e, le-ltb room answer_room l, r.decides)

pub one_at : (c : Card) (cmd s buf : List ℕ) (x : Comparison) → is_sound c ≡ true → answer_room ≤ length buf → comparison c cmd ≡ some x
    → comparison_at c (answer cmd s buf) ≡ some x
unfolding comparison_at
one_at c cmd s buf x e l m = rw (one-answers c cmd s (length buf) x e l (one-made c cmd x m)) m
