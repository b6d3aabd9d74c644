-- SIGN and EXPORT with P2 00 give 9000 only past their checks, which ask for a verified PIN: on the card that the call was given, since no step verifies
-- it, and there it is verified exactly if the history says so.
-- Assumes nothing.
use mathlib.Core.Path.{◌≡◌, refl, sym, ◌∙◌, subst}
use mathlib.Core.Bool.{Bool, true, false, ◌||◌, false≢true}
use mathlib.Core.List.{List}
use mathlib.Core.Option.{Option, some}
use Prim.Native.Nat.{ℕ}
use borrow.Author.Tests.{eqb-false, not-true}
use lib.Dec.{eqb}
use lib.ListN.{length}
use Rattle.octets.specs.Bytes.{same_bytes}
use Rattle.octets.proofs.Lists.{same-eq}
use Rattle.template_rules.proofs.HeadFacts.{by-test}
use Rattle.refusals.specs.Refusals.{no_refusal}
use Rattle.card.specs.declared.Keys.{Keys}
use Rattle.card.specs.declared.Card.{Card}
use Rattle.card.specs.State.{closed, path_bytes}
use Rattle.card.proofs.Tests.{both, the_second}
use Rattle.rules.specs.declared.ExportPath.{ExportPath}
use Rattle.rules.specs.declared.ExportPart.TheVariants as export_part
use Rattle.rules.specs.declared.Command.{Command}
use Rattle.rules.specs.declared.Command.TheVariants as command
use Rattle.rules.specs.Results.{Verdict}
use Rattle.rules.specs.Words.{Hold}
use Rattle.rules.specs.Rows.{row_of}
use Rattle.rules.specs.Commands.{is_verified, has_key, is_set, on_pinless_path, sign_checks, export_checks, rule_of}
use Rattle.rules.specs.Steps.{Step, step1, Opened, Arrived, checks_of, supply_of, reply_of}
use Rattle.rules.specs.Engine.{answer_out}
use Rattle.laws_commands.proofs.Checks.{never}
use Rattle.laws_commands.proofs.Arrival.{At, card_at, arrived_at, by-opened}
use Rattle.laws_engine.proofs.Sound.{step1-keeps, begun-keeps}
use Rattle.laws_two_runs.specs.Runs.{Call, ask, answer, reset}
use Rattle.laws_two_runs.proofs.Order.{by-arrival}
use Rattle.laws_allowance.specs.Events.{given_by, word_by, given_at6, given_past, given, succeeded_at}
use Rattle.laws_allowance.specs.History.{History, card_after}
use Rattle.laws_allowance.specs.Guard.{OnPinlessPath, Guard}
use Rattle.laws_allowance.proofs.Replies.{given_is, by-verdict-errors, errors}
use Rattle.laws_allowance.proofs.Verified.{verified-guarded}

-- ---- a command that gave 9000: its checks held, on a card with the keys of the one that the call was given, and verified only if that was
pub record Held (c : Card) (k : Command) : Type 0 where
  pub card : Card
  pub data' : List ℕ
  pub checks : Hold (checks_of k card data')
  pub keys : card.keys ≡ c.keys
  pub verified : is_verified card.pins ≡ true → is_verified c.pins ≡ true

module _ (c : Card) (cmd s : List ℕ) (k : Command) where
  -- what the steps leave of keys and verification
  abbrev Less : Card → Type 0
  Less x = (x.keys ≡ c.keys) × (is_verified x.pins ≡ true → is_verified c.pins ≡ true)

  closes : (x : Card) → Less x → Less (closed x)
  closes x l = (l.0, λ e. absurd (false≢true e))

  step1-less : Less (step1 cmd c)
  step1-less = step1-keeps Less closes (λ x l. l) cmd c (refl, λ e. e)

  begun-less : (x : At cmd (step1 cmd c)) → Less (card_at x.instruction x.opened)
  begun-less x = begun-keeps Less closes (λ y l. l) (row_of x.instruction).loss x.opened.card
      (by-opened (λ (o : Opened). Less o.card) x.instruction cmd (step1 cmd c) x.field (λ _. step1-less) (λ _ _ _ _. step1-less)
      x.opened x.opens)

  given-at : (x : At cmd (step1 cmd c)) (i : Command) → given_at6 s (arrived_at x.instruction cmd x.opened i) ≡ some k → Held c k
  given-at x i =
      let a : Arrived = arrived_at x.instruction cmd x.opened i in
      by-verdict-errors (λ (v : Verdict). given_by i (word_by a s v) ≡ some k → Held c k) (supply_of i) (checks_of i a.card a.data')
      (errors i a.card a.data')
      (λ h e. record {
        card = a.card;
        data' = a.data';
        checks = subst (λ (j : Command). Hold (checks_of j a.card a.data')) (given_is (reply_of i a.card a.data' s).status i k e) h;
        keys = (begun-less x).0;
        verified = (begun-less x).1;
      })
      (λ w z e. never k (rw z at e))

  given-held : given c cmd s ≡ some k → Held c k
  unfolding given
  given-held = by-arrival (λ (y : Step Arrived). given_past s y ≡ some k → Held c k) c cmd (λ t e. never k e) (λ x i listed. given-at x i)

pub succeeded-held : (c : Card) (k : Call) (j : Command) → succeeded_at c k ≡ some j → Held c j
unfolding succeeded_at
succeeded-held c (ask cmd buf) j = λ e. never j e
succeeded-held c (answer cmd s buf) j = by-test (λ (o : Option Command). o ≡ some j → Held c j)
    (eqb (answer_out c cmd s (length buf)).refusal no_refusal) (λ _. given-held c cmd s j) (λ _ e. never j e)
succeeded-held c reset j = λ e. never j e

-- ---- SIGN: a verified PIN, or a PIN-less path that is not empty and is the current one
on-pinless : (k : Keys) → on_pinless_path k ≡ true → (k.pinless.len ≡ 0 → ⊥) × (path_bytes k.current ≡ path_bytes k.pinless)
on-pinless k e =
    let h = both (is_set k.pinless) (same_bytes (path_bytes k.pinless) (path_bytes k.current)) e in
    (eqb-false k.pinless.len 0 (not-true _ h.0), sym (same-eq (path_bytes k.pinless) (path_bytes k.current) h.1))

sign-verified : (c : Card) → Held c command.Sign → (OnPinlessPath c → ⊥) → is_verified c.pins ≡ true
unfolding rule_of sign_checks
sign-verified c h n = go (is_verified h.card.pins) refl
  where
    go : (b : Bool) → is_verified h.card.pins ≡ b → is_verified c.pins ≡ true
    go true e = h.verified e
    go false e =
        let either = (both (has_key h.card.keys) (is_verified h.card.pins || on_pinless_path h.card.keys) h.checks.0).1 in
        absurd (n (subst (λ (k : Keys). (k.pinless.len ≡ 0 → ⊥) × (path_bytes k.current ≡ path_bytes k.pinless)) h.keys
        (on-pinless h.card.keys (the_second (is_verified h.card.pins) (on_pinless_path h.card.keys) e either))))

-- ---- EXPORT with P2 00: a verified PIN
export-verified : (c : Card) (which : ExportPath) → Held c (command.Export which export_part.PrivateAndPublic) → is_verified c.pins ≡ true
unfolding rule_of export_checks
export-verified c which h = h.verified (both (eqb h.card.keys.kind 2) (is_verified h.card.pins) h.checks.0).1

pub guard : (h : History) (k : Call) → Guard h k
guard h k = record {
  signs = λ e n. sym (verified-guarded h) ∙ sign-verified (card_after h) (succeeded-held (card_after h) k command.Sign e) n;
  exports = λ which e. sym (verified-guarded h) ∙ export-verified (card_after h) which (succeeded-held (card_after h) k _ e);
}
