-- A call that makes an initialised card of one that was not gives 9000 for INIT: no other command does so, and no step. Every list of calls from a
-- sound card before INIT to an initialised one has a history in it.
-- Assumes nothing.
use mathlib.Core.Path.{◌≡◌, refl, sym, ap, ◌∙◌}
use mathlib.Core.Bool.{Bool, true, false, ◌&&◌, not, cond, false≢true}
use mathlib.Core.List.{List, [], ◌∷◌}
use mathlib.Core.Option.{Option, none, some}
use Prim.Native.Nat.{ℕ}
use lib.Dec.{ltb, eqb}
use lib.ListN.{length}
use Rattle.template_rules.proofs.HeadFacts.{by-test}
use Rattle.refusals.specs.Refusals.{no_refusal, answer_room}
use Rattle.card.specs.declared.Card.{Card}
use Rattle.card.specs.State.{closed, reset_of}
use Rattle.card.specs.Sound.{is_sound}
use Rattle.std.specs.Prelude.{Option as Found, Some, None}
use Rattle.card_slots.specs.Free.{first_free}
use Rattle.sound.specs.declared.Answer.{Answer}
use Rattle.sound.specs.Reset.{reset_answer}
use Rattle.rules.specs.declared.StatusKind.{StatusKind}
use Rattle.rules.specs.declared.StatusKind.TheVariants as status
use Rattle.rules.specs.declared.SecretKind.{SecretKind}
use Rattle.rules.specs.declared.SecretKind.TheVariants as secret
use Rattle.rules.specs.declared.Command.{Command}
use Rattle.rules.specs.declared.Command.TheVariants as command
use Rattle.rules.specs.Results.{Verdict}
use Rattle.rules.specs.Words.{wrong_parameters, Reply, fails}
use Rattle.rules.specs.Supplies.{suits, says_yes, init_key}
use Rattle.rules.specs.Rows.{row_of, is_plain}
use Rattle.rules.specs.Commands.{select_reply, is_content, init_content, init_with, init_reply, open_reply, mutual_reply, pair_first_reply, pair_into, pair_final_reply, unpair_reply, status_reply, verify_reply, change_reply, unblock_reply, load_reply, derive_reply, remove_reply, pinless_reply, sign_reply, export_reply, ndef_reply, mnemonic_reply, rule_of}
use Rattle.rules.specs.Channel.{Outgoing, tell}
use Rattle.rules.specs.Steps.{Step, step1, p1_of, is_initialised, Opened, Arrived, arrival, checks_of, supply_of, reply_of, by_verdict, step6, finish, decide}
use Rattle.rules.specs.Engine.{AnswerOut, answer_out}
use Rattle.laws_commands.proofs.Arrival.{At, card_at, lost_at, arrived_at, by-step5, by-opened, by-past_step1}
use Rattle.laws_commands.proofs.Checks.{by-verdict}
use Rattle.laws_engine.proofs.Sound.{step1-keeps, begun-keeps, failed-keeps}
use Rattle.laws_two_runs.specs.Runs.{Call, ask, answer, reset, next_at, end_of}
use Rattle.laws_two_runs.proofs.TwoRuns.{next-sound}
use Rattle.laws_allowance.specs.Events.{given_by, word_by, given_at6, given_past, given, succeeded_at}
use Rattle.laws_allowance.specs.History.{Historic}

-- ---- a card that was not initialised is so only by INIT with 9000
abbrev ByInit : Option Command → Card → Type 0
ByInit g x = is_initialised x ≡ true → g ≡ some command.Init

not_yet : (g : Option Command) (x : Card) → is_initialised x ≡ false → ByInit g x
not_yet g x f e = absurd (false≢true (sym f ∙ e))

abbrev Replies : Command → Type 0
Replies k = (right : Bool) (c : Card) (d s : List ℕ) → is_initialised c ≡ false
    → ByInit (given_by k ((rule_of k).reply right c d s).status) ((rule_of k).reply right c d s).card

-- a command that leaves it
leaves : (k : Command) → ((right : Bool) (c : Card) (d s : List ℕ) → ((rule_of k).reply right c d s).card.initialised ≡ c.initialised) → Replies k
leaves k h right c d s f = not_yet _ ((rule_of k).reply right c d s).card (ap (λ (n : ℕ). is_initialised_by n) (h right c d s) ∙ f)
  where
    is_initialised_by : ℕ → Bool
    is_initialised_by n = not (eqb n 0)

flagged : (n : ℕ) (s : List ℕ) (x y : Reply) → x.card.initialised ≡ n → y.card.initialised ≡ n → (cond (says_yes s) x y).card.initialised ≡ n
flagged n s x y a b = by-test (λ (r : Reply). r.card.initialised ≡ n) (says_yes s) (λ _. a) (λ _. b)

by-outcome : (n : ℕ) (right : Bool) (x y : Reply) → x.card.initialised ≡ n → y.card.initialised ≡ n → (cond right x y).card.initialised ≡ n
by-outcome n right x y a b = by-test (λ (r : Reply). r.card.initialised ≡ n) right (λ _. a) (λ _. b)

init-replies : Replies command.Init
unfolding rule_of init_reply init_with
init-replies right c d s f = by-test Leads (says_yes s) (λ _. with-content (init_content (init_key s) d)) (λ _. not_yet none c f)
  where
    Leads : Reply → Type 0
    Leads r = ByInit (given_by command.Init r.status) r.card

    with-content : (o : Option (List ℕ)) → Leads (init_with c o)
    with-content none = not_yet none c f
    with-content (some x) = by-test Leads (is_content x) (λ _ e. refl) (λ _. not_yet none c f)

status-leaves : (c : Card) (which : StatusKind) → (status_reply c which).card.initialised ≡ c.initialised
unfolding status_reply
status-leaves c status.Application = refl
status-leaves c status.Path = refl

change-leaves : (c : Card) (d : List ℕ) (which : SecretKind) → (change_reply c which d).card.initialised ≡ c.initialised
unfolding change_reply
change-leaves c d secret.Pin = refl
change-leaves c d secret.Puk = refl
change-leaves c d secret.Pairing = refl

pair-leaves : (c : Card) (s : List ℕ) (f : Found ℕ) → (pair_into c s f).card.initialised ≡ c.initialised
unfolding pair_into
pair-leaves c s (Some i) = refl
pair-leaves c s None = refl

replies : (k : Command) → Replies k
unfolding rule_of select_reply open_reply mutual_reply pair_first_reply pair_final_reply unpair_reply verify_reply unblock_reply load_reply derive_reply remove_reply pinless_reply sign_reply export_reply ndef_reply mnemonic_reply
replies command.Select = leaves command.Select (λ b c d s. refl)
replies command.Init = init-replies
replies (command.Open i) = leaves (command.Open i) (λ b c d s. flagged c.initialised s _ _ refl refl)
replies command.Mutual = leaves command.Mutual (λ b c d s. refl)
replies command.PairFirst = leaves command.PairFirst (λ b c d s. refl)
replies command.PairFinal = leaves command.PairFinal (λ b c d s. pair-leaves c s (first_free c.pairing.slots))
replies (command.Unpair i) = leaves (command.Unpair i) (λ b c d s. refl)
replies (command.Status which) = leaves (command.Status which) (λ b c d s. status-leaves c which)
replies command.Verify = leaves command.Verify (λ b c d s. by-outcome c.initialised b _ _ refl refl)
replies (command.Change which) = leaves (command.Change which) (λ b c d s. change-leaves c d which)
replies command.Unblock = leaves command.Unblock (λ b c d s. by-outcome c.initialised b _ _ refl refl)
replies (command.Load form) = leaves (command.Load form) (λ b c d s. flagged c.initialised s _ _ refl refl)
replies command.Derive = leaves command.Derive (λ b c d s. flagged c.initialised s _ _ refl refl)
replies command.Remove = leaves command.Remove (λ b c d s. refl)
replies command.SetPinless = leaves command.SetPinless (λ b c d s. refl)
replies command.Sign = leaves command.Sign (λ b c d s. refl)
replies (command.Export which what) = leaves (command.Export which what) (λ b c d s. flagged c.initialised s _ _ refl refl)
replies command.SetNdef = leaves command.SetNdef (λ b c d s. refl)
replies (command.Mnemonic x) = leaves (command.Mnemonic x) (λ b c d s. refl)

-- ---- through the steps
tell-init : (g : Option Command) (over : Bool) (r : Reply) → ByInit g r.card → ByInit g (tell over r).card
unfolding tell
tell-init g over r h = by-test (λ (t : Outgoing). ByInit g t.card) (over && eqb r.card.channel.stage 2) (λ _. h) (λ _. h)

module _ (c : Card) (cmd : List ℕ) (f : is_initialised c ≡ false) where
  abbrev Before : Card → Type 0
  Before x = is_initialised x ≡ false

  step1-before : Before (step1 cmd c)
  step1-before = step1-keeps Before (λ x h. h) (λ x h. h) cmd c f

  begun-before : (x : At cmd (step1 cmd c)) → Before (card_at x.instruction x.opened)
  begun-before x = begun-keeps Before (λ y h. h) (λ y h. h) (row_of x.instruction).loss x.opened.card
      (by-opened (λ (o : Opened). Before o.card) x.instruction cmd (step1 cmd c) x.field (λ _. step1-before) (λ _ _ _ _. step1-before)
      x.opened x.opens)

  lost-init : (x : At cmd (step1 cmd c)) (g : Option Command) (w : ℕ)
      → ByInit g (tell (not (is_plain x.instruction)) (fails (lost_at x.instruction cmd x.opened) w)).card
  lost-init x g w = tell-init g (not (is_plain x.instruction)) (fails (lost_at x.instruction cmd x.opened) w)
      (not_yet g (lost_at x.instruction cmd x.opened)
      (failed-keeps Before (λ y h. h) (λ y h. h) (row_of x.instruction).loss (p1_of cmd) (card_at x.instruction x.opened) (begun-before x)))

  step6-init : (x : At cmd (step1 cmd c)) (k : Command) (s : List ℕ)
      → ByInit (given_at6 s (arrived_at x.instruction cmd x.opened k)) ((step6 (arrived_at x.instruction cmd x.opened k)).answer s).card
  unfolding step6
  step6-init x k s =
      let a : Arrived = arrived_at x.instruction cmd x.opened k in
      by-verdict (λ (v : Verdict). ByInit (given_by k (word_by a s v)) ((by_verdict a v).answer s).card) (supply_of k)
      (checks_of k a.card a.data')
      (λ h. tell-init _ a.over (reply_of k a.card a.data' s) (replies k _ a.card a.data' s (begun-before x)))
      (λ w. lost-init x _ w)

  decide-init : (s : List ℕ) → ByInit (given c cmd s) ((decide c cmd).answer s).card
  unfolding decide arrival given
  decide-init = by-past_step1 Past cmd (step1 cmd c) (λ w s. not_yet none (step1 cmd c) step1-before) (λ s. not_yet none (closed (step1 cmd c)) step1-before)
      (λ x. by-step5 Past x.instruction cmd x.opened (λ s. lost-init x none wrong_parameters) (λ k listed s. step6-init x k s))
    where
      Past : Step Arrived → Type 0
      Past y = (s : List ℕ) → ByInit (given_past s y) ((finish y).answer s).card

  answer-init : (s : List ℕ) (room : ℕ)
      → ByInit (cond (eqb (answer_out c cmd s room).refusal no_refusal) (given c cmd s) none) (answer_out c cmd s room).card
  unfolding answer_out
  answer-init s room = by-test Leads (is_sound c)
      (λ _. by-test Leads (ltb room answer_room) (λ _. not_yet none c f)
      (λ _. by-test Leads (suits (decide c cmd).supply s) (λ _. decide-init s) (λ _. not_yet none c f)))
      (λ _. not_yet none c f)
    where
      Leads : AnswerOut → Type 0
      Leads o = ByInit (cond (eqb o.refusal no_refusal) (given c cmd s) none) o.card

-- ---- a call
pub init-only : (c : Card) (k : Call) → is_initialised c ≡ false → is_initialised (next_at c k) ≡ true → succeeded_at c k ≡ some command.Init
unfolding next_at succeeded_at reset_answer
init-only c (ask cmd buf) f = not_yet none c f
init-only c (answer cmd s buf) f = answer-init c cmd f s (length buf)
init-only c reset f = by-test (λ (a : Answer). ByInit none a.card) (is_sound c) (λ _. not_yet none (reset_of c) f) (λ _. not_yet none c f)

-- ---- the history in a list of calls that initialises a card
pub in-history : (calls : List Call) (c : Card) → is_sound c ≡ true → is_initialised c ≡ false → is_initialised (end_of c calls) ≡ true
    → Historic (end_of c calls)
unfolding end_of
in-history [] c e f t = absurd (false≢true (sym f ∙ t))
in-history (k ∷ more) c e f t = go (is_initialised (next_at c k)) refl (λ i. in-history more (next_at c k) (next-sound c k e) i t)
  where
    go : (b : Bool) → is_initialised (next_at c k) ≡ b → (is_initialised (next_at c k) ≡ false → Historic (end_of (next_at c k) more))
        → Historic (end_of (next_at c k) more)
    go true i later = record {
      history = record { card = c; sound = e; fresh = f; first = k; init = init-only c k f i; calls = more };
      ends = refl;
    }
    go false i later = later i
