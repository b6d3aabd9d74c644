-- A private key does not go out elsewhere: by cases on what steps 1 to 6 come to, every command but EXPORT with P2 00 by `unless-private`, and that
-- one by its checks.
-- Assumes nothing.
use mathlib.Core.Path.{◌≡◌, refl, sym, ap, ◌∙◌, subst}
use mathlib.Core.Bool.{Bool, true, false, ◌&&◌, not, cond, false≢true}
use mathlib.Core.List.{List, ◌++◌}
use Prim.Native.Nat.{ℕ}
use borrow.Author.Tests.{eqb-true}
use lib.Dec.{ltb, eqb}
use lib.ListN.{length, take, drop, take-append-drop}
use Rattle.octets.proofs.Lists.{same-eq}
use Rattle.template_rules.proofs.HeadFacts.{by-test}
use Rattle.refusals.specs.Refusals.{unsound, no_room, wrong_supply, answer_room}
use Rattle.card.specs.declared.Keys.{Keys}
use Rattle.card.specs.declared.Card.{Card}
use Rattle.card.specs.State.{closed}
use Rattle.card.specs.Sound.{is_sound}
use Rattle.card.proofs.Tests.{both}
use Rattle.rules.specs.declared.Loss.{Loss}
use Rattle.rules.specs.declared.Loss.TheVariants as loss
use Rattle.rules.specs.declared.ExportPath.{ExportPath}
use Rattle.rules.specs.declared.ExportPath.TheVariants as export_path
use Rattle.rules.specs.declared.ExportPart.TheVariants as export_part
use Rattle.rules.specs.declared.Command.{Command}
use Rattle.rules.specs.declared.Command.TheVariants as command
use Rattle.rules.specs.Results.{Verdict}
use Rattle.rules.specs.Words.{Hold, fails}
use Rattle.rules.specs.Supplies.{suits}
use Rattle.rules.specs.Commands.{is_verified, exported_path, in_eip1581, export_checks, rule_of}
use Rattle.rules.specs.Rows.{row_of}
use Rattle.rules.specs.Channel.{Outgoing, tell}
use Rattle.rules.specs.Steps.{Step, goes, stops, begins, dropping, step1, begun, Arrived, arrival, checks_of, supply_of, Decision, ends_at, by_verdict, step6, finish, decide}
use Rattle.rules.specs.Engine.{AnswerOut, answered, answer_refused, with_supply, answer_out}
use Rattle.laws_commands.proofs.Checks.{by-verdict}
use Rattle.laws_commands.proofs.Arrival.{At, by-opened, by-step5, by-past_step1}
use Rattle.laws_commands.proofs.PrivatePart.{unless-private}
use Rattle.claims.specs.Export.{chat_node, Begins, asked_path, LetsOut}

-- ---- steps 1 to 5 keep the keys, and verify nothing
module _ (c : Card) (cmd : List ℕ) where
  abbrev Kept : Card → Type 0
  Kept x = (x.keys ≡ c.keys) × (is_verified x.pins ≡ true → is_verified c.pins ≡ true)

  closed-kept : (x : Card) → Kept x → Kept (closed x)
  closed-kept x h = (h.0, λ e. absurd (false≢true e))

  dropping-kept : Kept (dropping cmd c)
  dropping-kept = by-test Kept (eqb c.channel.stage 1 && not (begins 0x11 cmd)) (λ e. closed-kept c (refl, λ v. v)) (λ e. (refl, λ v. v))

  step1-kept : Kept (step1 cmd c)
  unfolding step1
  step1-kept = by-test Kept (begins 0x12 cmd) (λ e. dropping-kept) (λ e. dropping-kept)

  opened-kept : (x : At cmd (step1 cmd c)) → Kept x.opened.card
  opened-kept x = by-opened (λ o. Kept o.card) x.instruction cmd (step1 cmd c) x.field (λ p. step1-kept) (λ p t d e. step1-kept) x.opened x.opens

  begun_kept : (l : Loss) (x : Card) → Kept x → Kept (begun l x)
  begun_kept loss.Channel x h = closed-kept x h
  begun_kept loss.HalfOpen x h = h
  begun_kept loss.Pending x h = h
  begun_kept loss.Nothing x h = h

  abbrev Went : Step Arrived → Type 0
  Went (goes a) = Kept a.card
  Went (stops t) = Unit {0}

  arrived-kept : (a : Arrived) → arrival c cmd ≡ goes a → Kept a.card
  unfolding arrival
  arrived-kept a e = subst Went e (by-past_step1 Went cmd (step1 cmd c) (λ w. tt) tt
      (λ x. by-step5 Went x.instruction cmd x.opened tt (λ k l. begun_kept (row_of x.instruction).loss x.opened.card (opened-kept x))))

-- ---- the path that the rule judges is the one asked for, and begins so exactly if the rule's test holds
pub asked_is : (which : ExportPath) (c : Card) (d : List ℕ) → exported_path which c.keys d ≡ asked_path which c d
asked_is export_path.Current c d = refl
asked_is export_path.Given c d = refl
asked_is export_path.MakeCurrent c d = refl

begins-so : (path : List ℕ) → in_eip1581 path ≡ true → Begins path
begins-so path e = (drop 12 path, sym (take-append-drop 12 path) ∙ ap (λ (x : List ℕ). x ++ drop 12 path) (same-eq (take 12 path) chat_node e))

pub begun-so : (path : List ℕ) → Begins path → in_eip1581 path ≡ true
begun-so path b = ap in_eip1581 b.1

-- ---- step 6, where the checks of EXPORT with P2 00 hold
module _ (c : Card) (cmd : List ℕ) (a : Arrived) (there : arrival c cmd ≡ goes a) (which : ExportPath)
    (asks : a.command ≡ command.Export which export_part.PrivateAndPublic) where
  lets : Hold (checks_of a.command a.card a.data') → LetsOut c cmd
  unfolding rule_of export_checks
  lets h =
      let k = arrived-kept c cmd a there in
      let v : Hold (checks_of (command.Export which export_part.PrivateAndPublic) a.card a.data') =
      subst (λ (x : Command). Hold (checks_of x a.card a.data')) asks h in
      let l = both (eqb a.card.keys.kind 2) (is_verified a.card.pins) v.0 in
      record {
        arrived = a;
        which = which;
        opens = there;
        asks = asks;
        verified = k.1 l.1;
        extended = ap (λ (x : Keys). x.kind) (sym k.0) ∙ eqb-true a.card.keys.kind 2 l.0;
        path = begins-so (asked_path which c a.data')
            (ap in_eip1581 (sym (ap (λ (x : Keys). exported_path which x a.data') k.0 ∙ asked_is which c a.data')) ∙ v.1.1.0);
      }

-- ---- ANSWER
cond-alike : {A : Type 0} (b d : Bool) (x y z : A) → b ≡ d → (b ≡ true → x ≡ y) → cond b x z ≡ cond d y z
cond-alike true true x y z e f = f refl
cond-alike true false x y z e f = absurd (false≢true (sym e))
cond-alike false true x y z e f = absurd (false≢true e)
cond-alike false false x y z e f = refl

module _ (c : Card) (cmd s t : List ℕ) (l : length s ≡ 98) (m : length t ≡ 98) (e : take 66 s ≡ take 66 t) (not' : LetsOut c cmd → ⊥) where
  abbrev Same : Decision → Type 0
  Same d = with_supply c d s ≡ with_supply c d t

  ends_same : (n : ℕ) (x : Outgoing) → Same (ends_at n x)
  unfolding suits
  ends_same n x = refl

  step6-same : (a : Arrived) → arrival c cmd ≡ goes a → Same (step6 a)
  unfolding step6
  step6-same a there = by-verdict (λ (v : Verdict). Same (by_verdict a v)) (supply_of a.command) (checks_of a.command a.card a.data')
      (λ h.
      let k = unless-private a.card a.data' s t l m e a.command (λ which asks. not' (lets c cmd a there which asks h)) in
      cond-alike (suits (supply_of a.command) s) (suits (supply_of a.command) t) _ _ (answer_refused c wrong_supply) k.0
      (λ h. ap (λ r. answered (tell a.over r)) (k.1 h)))
      (λ w. ends_same _ (tell a.over (fails a.lost w)))

  decided : (x : Step Arrived) → arrival c cmd ≡ x → Same (finish x)
  decided (goes a) there = step6-same a there
  decided (stops x) there = ends_same _ x

  pub elsewhere : (room : ℕ) → answer_out c cmd s room ≡ answer_out c cmd t room
  unfolding answer_out decide
  elsewhere room =
      ap (λ (x : AnswerOut). cond (is_sound c) (cond (ltb room answer_room) (answer_refused c no_room) x) (answer_refused c unsound))
      (decided (arrival c cmd) refl)
