-- ANSWER keeps the tap record, or it is SET NDEF that sets it: through the order of checks, with one line a command for its reply.
-- Assumes nothing.
use mathlib.Core.Path.{◌≡◌, refl, ap, ◌∙◌, subst}
use mathlib.Core.Bool.{Bool, true, false, ◌&&◌, not, false≢true}
use mathlib.Core.List.{List}
use mathlib.Core.Logic.{◌⊎◌, inl, inr, ⊎_elim}
use mathlib.Core.Option.{Option, none, some}
use Prim.Native.Nat.{ℕ}
use lib.Dec.{ltb, eqb}
use Rattle.template_rules.proofs.HeadFacts.{by-test}
use Rattle.refusals.specs.Refusals.{answer_room}
use Rattle.card.specs.declared.Card.{Card}
use Rattle.card.specs.State.{tap_of, closed}
use Rattle.card.specs.Sound.{is_sound, is_ndef}
use Rattle.std.specs.Prelude.{Option as Found, Some, None}
use Rattle.card_slots.specs.Free.{first_free}
use Rattle.rules.specs.declared.StatusKind.{StatusKind}
use Rattle.rules.specs.declared.StatusKind.TheVariants as status
use Rattle.rules.specs.declared.SecretKind.{SecretKind}
use Rattle.rules.specs.declared.SecretKind.TheVariants as secret
use Rattle.rules.specs.declared.Command.{Command}
use Rattle.rules.specs.declared.Command.TheVariants as command
use Rattle.rules.specs.Results.{Verdict}
use Rattle.rules.specs.Words.{wrong_parameters, Hold, Reply, fails}
use Rattle.rules.specs.Supplies.{suits, says_yes, init_key}
use Rattle.rules.specs.Rules.{pin, puk, right_by}
use Rattle.rules.specs.Commands.{is_verified, select_reply, is_content, init_content, init_with, init_reply, open_reply, mutual_reply, pair_first_reply, pair_into, pair_final_reply, unpair_reply, status_reply, verify_reply, change_reply, unblock_reply, load_reply, derive_reply, remove_reply, pinless_reply, sign_reply, export_reply, ndef_checks, ndef_reply, mnemonic_reply, rule_of}
use Rattle.rules.specs.Rows.{row_of, is_plain}
use Rattle.rules.specs.Channel.{Outgoing, tell}
use Rattle.rules.specs.Steps.{Step, goes, step1, p1_of, Opened, Arrived, arrival, checks_of, supply_of, reply_of, by_verdict, step6, finish, decide}
use Rattle.rules.specs.Engine.{AnswerOut, answer_out}
use Rattle.laws_commands.proofs.Checks.{by-verdict}
use Rattle.laws_commands.proofs.Arrival.{At, card_at, lost_at, arrived_at, by-step5, by-opened, by-past_step1}
use Rattle.laws_engine.specs.Tapped.{TapAfter, kept, set}
use Rattle.laws_engine.proofs.Sound.{step1-keeps, begun-keeps, failed-keeps}

-- ---- the replies
module _ (c : Card) (d s : List ℕ) where
  abbrev Keeps : Reply → Type 0
  Keeps r = r.card.tap ≡ c.tap

  init-with : (o : Option (List ℕ)) → Keeps (init_with c o)
  unfolding init_with
  init-with none = refl
  init-with (some x) = by-test Keeps (is_content x) (λ _. refl) (λ _. refl)

  pair-into : (f : Found ℕ) → Keeps (pair_into c s f)
  unfolding pair_into
  pair-into (Some i) = refl
  pair-into None = refl

  status-keeps : (which : StatusKind) → Keeps (status_reply c which)
  unfolding status_reply
  status-keeps status.Application = refl
  status-keeps status.Path = refl

  change-keeps : (which : SecretKind) → Keeps (change_reply c which d)
  unfolding change_reply
  change-keeps secret.Pin = refl
  change-keeps secret.Puk = refl
  change-keeps secret.Pairing = refl

  pub unless-ndef : (k : Command) → (k ≡ command.SetNdef) ⊎ ((reply_of k c d s).card.tap ≡ c.tap)
  unfolding rule_of select_reply init_reply open_reply mutual_reply pair_first_reply pair_final_reply unpair_reply verify_reply unblock_reply load_reply derive_reply remove_reply pinless_reply sign_reply export_reply mnemonic_reply
  unless-ndef command.Select = inr refl
  unless-ndef command.Init = inr (by-test Keeps (says_yes s) (λ _. init-with (init_content (init_key s) d)) (λ _. refl))
  unless-ndef (command.Open i) = inr (by-test Keeps (says_yes s) (λ _. refl) (λ _. refl))
  unless-ndef command.Mutual = inr refl
  unless-ndef command.PairFirst = inr refl
  unless-ndef command.PairFinal = inr (pair-into (first_free c.pairing.slots))
  unless-ndef (command.Unpair i) = inr refl
  unless-ndef (command.Status which) = inr (status-keeps which)
  unless-ndef command.Verify = inr (by-test Keeps (right_by pin c.pins d) (λ _. refl) (λ _. refl))
  unless-ndef (command.Change which) = inr (change-keeps which)
  unless-ndef command.Unblock = inr (by-test Keeps (right_by puk c.pins d) (λ _. refl) (λ _. refl))
  unless-ndef (command.Load form) = inr (by-test Keeps (says_yes s) (λ _. refl) (λ _. refl))
  unless-ndef command.Derive = inr (by-test Keeps (says_yes s) (λ _. refl) (λ _. refl))
  unless-ndef command.Remove = inr refl
  unless-ndef command.SetPinless = inr refl
  unless-ndef command.Sign = inr refl
  unless-ndef (command.Export which what) = inr (by-test Keeps (says_yes s) (λ _. refl) (λ _. refl))
  unless-ndef command.SetNdef = inl refl
  unless-ndef (command.Mnemonic x) = inr refl

-- SET NDEF, where its checks hold
pub ndef-held : (c : Card) (d : List ℕ) → Hold (checks_of command.SetNdef c d) → (is_verified c.pins ≡ true) × (is_ndef d ≡ true)
unfolding rule_of ndef_checks
ndef-held c d h = (h.0, h.1.0)

pub ndef-sets : (c : Card) (d s : List ℕ) → (reply_of command.SetNdef c d s).card.tap ≡ tap_of d
unfolding rule_of ndef_reply
ndef-sets c d s = refl

-- an answer that goes out has the tap record of the reply's card
tell-tap : (over : Bool) (r : Reply) → (tell over r).card.tap ≡ r.card.tap
unfolding tell
tell-tap over r = by-test (λ (t : Outgoing). t.card.tap ≡ r.card.tap) (over && eqb r.card.channel.stage 2) (λ _. refl) (λ _. refl)

-- ---- from the card c through the steps: they keep the tap record, and verify nothing
module _ (c : Card) (cmd : List ℕ) where
  abbrev Kept : Card → Type 0
  Kept x = (x.tap ≡ c.tap) × (is_verified x.pins ≡ true → is_verified c.pins ≡ true)

  closes : (x : Card) → Kept x → Kept (closed x)
  closes x h = (h.0, λ e. absurd (false≢true e))

  step1-kept : Kept (step1 cmd c)
  step1-kept = step1-keeps Kept closes (λ x h. h) cmd c (refl, λ v. v)

  module _ (x : At cmd (step1 cmd c)) where
    abbrev at5 : Card
    at5 = card_at x.instruction x.opened

    abbrev lost5 : Card
    lost5 = lost_at x.instruction cmd x.opened

    opened-kept : Kept x.opened.card
    opened-kept = by-opened (λ (o : Opened). Kept o.card) x.instruction cmd (step1 cmd c) x.field (λ _. step1-kept)
        (λ _ _ _ _. step1-kept) x.opened x.opens

    begun_kept : Kept at5
    begun_kept = begun-keeps Kept closes (λ y h. h) (row_of x.instruction).loss x.opened.card opened-kept

    lost-kept : Kept lost5
    lost-kept = failed-keeps Kept closes (λ y h. h) (row_of x.instruction).loss (p1_of cmd) at5 begun_kept

    fails-kept : (w : ℕ) → TapAfter c cmd (tell (not (is_plain x.instruction)) (fails lost5 w)).card
    fails-kept w = kept (tell-tap (not (is_plain x.instruction)) (fails lost5 w) ∙ lost-kept.0)

    -- a command at its own checks
    module _ (k : Command) (there : arrival c cmd ≡ goes (arrived_at x.instruction cmd x.opened k)) (s : List ℕ) where
      abbrev a : Arrived
      a = arrived_at x.instruction cmd x.opened k

      abbrev reply : Reply
      reply = reply_of k at5 a.data' s

      sets : Hold (checks_of k at5 a.data') → k ≡ command.SetNdef → TapAfter c cmd (tell a.over reply).card
      sets h e =
          let l = ndef-held at5 a.data' (subst (λ (y : Command). Hold (checks_of y at5 a.data')) e h) in
          set a there e (begun_kept.1 l.0) l.1
          (tell-tap a.over reply ∙ ap (λ (y : Command). (reply_of y at5 a.data' s).card.tap) e ∙ ndef-sets at5 a.data' s)

      replies : Hold (checks_of k at5 a.data') → TapAfter c cmd (tell a.over reply).card
      replies h = ⊎_elim (sets h) (λ e. kept (tell-tap a.over reply ∙ e ∙ begun_kept.0)) (unless-ndef at5 a.data' s k)

      step6-after : TapAfter c cmd ((step6 a).answer s).card
      unfolding step6
      step6-after = by-verdict (λ (v : Verdict). TapAfter c cmd ((by_verdict a v).answer s).card) (supply_of k) (checks_of k at5 a.data') replies fails-kept

  -- ---- the order of checks
  abbrev After : Step Arrived → Type 0
  After y = arrival c cmd ≡ y → (s : List ℕ) → TapAfter c cmd ((finish y).answer s).card

  decide-after : (s : List ℕ) → TapAfter c cmd ((decide c cmd).answer s).card
  unfolding decide arrival
  decide-after = by-past_step1 After cmd (step1 cmd c) (λ w e s. kept step1-kept.0) (λ e s. kept step1-kept.0)
      (λ x. by-step5 After x.instruction cmd x.opened (λ e s. fails-kept x wrong_parameters) (λ k l e s. step6-after x k e s)) refl

-- ---- ANSWER; where it refuses, the card is the one given
pub answer-tap : (c : Card) (cmd s : List ℕ) (room : ℕ) → TapAfter c cmd (answer_out c cmd s room).card
unfolding answer_out
answer-tap c cmd s room = by-test Leads (is_sound c)
    (λ _. by-test Leads (ltb room answer_room) (λ _. kept refl)
    (λ _. by-test Leads (suits (decide c cmd).supply s) (λ _. decide-after c cmd s) (λ _. kept refl)))
    (λ _. kept refl)
  where
    Leads : AnswerOut → Type 0
    Leads o = TapAfter c cmd o.card
