-- What each command does with the tries, one line a command: INIT and CHANGE set them where they give 9000, VERIFY and UNBLOCK by how their comparison
-- came out, and no other command changes them; and no check of a command has the status word 9000.
-- Assumes nothing.
use Rattle.std.specs.Prelude.{Err, Ok}
use mathlib.Core.Path.{◌≡◌, refl, ap}
use mathlib.Core.Bool.{Bool, true, false, cond, false≢true}
use mathlib.Core.List.{List, [], ◌∷◌}
use mathlib.Core.Option.{Option, none, some}
use Prim.Native.Nat.{ℕ}
use lib.Dec.{eqb}
use lib.ListN.{drop}
use borrow.Author.Tests.{eqb-true, eqb-false, not-true}
use Rattle.template_rules.proofs.HeadFacts.{by-test}
use Rattle.card.specs.declared.Pins.{Pins}
use Rattle.card.specs.declared.Card.{Card}
use Rattle.std.specs.Prelude.{Option as Found, Some, None}
use Rattle.card_slots.specs.Free.{first_free}
use Rattle.rules.specs.declared.StatusKind.{StatusKind}
use Rattle.rules.specs.declared.StatusKind.TheVariants as status
use Rattle.rules.specs.declared.SecretKind.{SecretKind}
use Rattle.rules.specs.declared.SecretKind.TheVariants as secret
use Rattle.rules.specs.declared.Command.{Command}
use Rattle.rules.specs.declared.Command.TheVariants as command
use Rattle.rules.specs.declared.Supply.{Supply}
use Rattle.rules.specs.Results.{Verdict}
use Rattle.rules.specs.Words.{success, Check, verdict, Hold, Reply}
use Rattle.rules.specs.Supplies.{says_yes, init_key}
use Rattle.rules.specs.Rules.{Secret, pin, puk}
use Rattle.rules.specs.Commands.{select_checks, select_reply, init_checks, is_content, init_content, init_with, init_reply, open_checks, open_reply, mutual_checks, mutual_reply, pair_first_checks, pair_first_reply, pair_final_checks, pair_into, pair_final_reply, unpair_checks, unpair_reply, status_reply, verify_checks, verify_reply, change_checks, change_reply, unblock_checks, unblock_reply, load_checks, load_reply, derive_checks, derive_reply, remove_checks, remove_reply, pinless_checks, pinless_reply, sign_checks, sign_reply, export_checks, export_reply, ndef_checks, ndef_reply, mnemonic_checks, mnemonic_reply, rule_of}
use Rattle.rules.specs.Steps.{checks_of}
use Rattle.rules.specs.Comparison.{Comparison}
use Rattle.laws_commands.proofs.Checks.{never}
use Rattle.laws_allowance.specs.Events.{given_by, Event}
use Rattle.laws_allowance.specs.History.{set_by, is_set}
use Rattle.laws_allowance.specs.Tries.{tries_after, Leaves}

-- ---- a command's event, by the secret that its rule compares, how that came out, and the status word
abbrev pub made_by : Option Secret → Bool → Option Comparison
made_by none right = none
made_by (some s) right = some (record { of = s; right = right })

abbrev pub did : Option Comparison → Option Command → Event
did m g = record { compared = m; succeeded = g; in2 = false }

-- a command that gives 9000 is the one at its checks
pub given_is : (w : ℕ) (i k : Command) → given_by i w ≡ some k → i ≡ k
given_is w i k = by-test (λ (o : Option Command). o ≡ some k → i ≡ k) (eqb w success) (λ _ e. cc) (λ _ e. never k e)

-- and with another status word none does
pub not-given : (k : Command) (w : ℕ) → eqb w success ≡ false → given_by k w ≡ none
not-given k w e = ap (λ (b : Bool). cond b (some k) none) e

-- ---- no comparison and nothing set: the tries stay
abbrev pub Kept : Pins → Pins → Type 0
Kept p q = (q.pin_tries ≡ p.pin_tries) × (q.puk_tries ≡ p.puk_tries)

unset : (k : Command) → set_by k ≡ [] → (s : Secret) (w : ℕ) → is_set s (given_by k w) ≡ false
unset k e s w = by-test (λ (g : Option Command). is_set s g ≡ false) (eqb w success) (λ _. rw e) (λ _. refl)

-- no comparison
uncompared : (g : Option Command) (p q : Pins) → q.pin_tries ≡ tries_after pin (did none g) p.pin_tries
    → q.puk_tries ≡ tries_after puk (did none g) p.puk_tries → Leaves (did none g) p q
uncompared g p q a b = record {
  pintries = a;
  puktries = b;
  pinleft = λ e. absurd (false≢true e);
  pukleft = λ e. absurd (false≢true e);
  blocked = λ e. absurd (false≢true e);
}

pub nothing-set : (g : Option Command) (p q : Pins) → is_set pin g ≡ false → is_set puk g ≡ false → Kept p q → Leaves (did none g) p q
nothing-set g p q a b h = uncompared g p q (rw a h.0) (rw b h.1)

-- ---- the commands, past their checks
abbrev pub Replies : Command → Type 0
Replies k = (right : Bool) (c : Card) (d s : List ℕ) → Hold (checks_of k c d)
    → Leaves (did (made_by (rule_of k).compares right) (given_by k ((rule_of k).reply right c d s).status)) c.pins
    ((rule_of k).reply right c d s).card.pins

-- one that compares nothing and sets nothing
stays : (k : Command) → set_by k ≡ [] → (rule_of k).compares ≡ none
    → ((right : Bool) (c : Card) (d s : List ℕ) → Kept c.pins ((rule_of k).reply right c d s).card.pins) → Replies k
stays k e n h right c d s v =
    let r : Reply = (rule_of k).reply right c d s in
    rw n (nothing-set (given_by k r.status) c.pins r.card.pins (unset k e pin r.status) (unset k e puk r.status) (h right c d s))

-- one that sets both, or fails and sets none
abbrev ByInit : Card → Reply → Type 0
ByInit c r = Leaves (did none (given_by command.Init r.status)) c.pins r.card.pins

init-fails : (c : Card) → Leaves (did none none) c.pins c.pins
init-fails c = nothing-set none c.pins c.pins refl refl (refl, refl)

init-replies : (c : Card) (d s : List ℕ) → ByInit c (init_reply c d s)
unfolding init_reply init_with
init-replies c d s = by-test (ByInit c) (says_yes s) (λ _. with-content (init_content (init_key s) d)) (λ _. init-fails c)
  where
    with-content : (o : Option (List ℕ)) → ByInit c (init_with c o)
    with-content none = init-fails c
    with-content (some x) = by-test (ByInit c) (is_content x)
        (λ _. uncompared (some command.Init) _ _ refl refl)
        (λ _. init-fails c)

change-replies : (c : Card) (which : SecretKind) (d : List ℕ)
    → Leaves (did none (given_by (command.Change which) (change_reply c which d).status)) c.pins (change_reply c which d).card.pins
unfolding change_reply
change-replies c secret.Pin d = uncompared (some (command.Change secret.Pin)) _ _ refl refl
change-replies c secret.Puk d = uncompared (some (command.Change secret.Puk)) _ _ refl refl
change-replies c secret.Pairing d = nothing-set (some (command.Change secret.Pairing)) c.pins c.pins refl refl (refl, refl)

-- VERIFY and UNBLOCK set nothing; the comparison decides
verify-replies : (right : Bool) (c : Card) → Hold (verify_checks c.pins)
    → Leaves (did (some (record { of = pin; right = right })) (given_by command.Verify (verify_reply right c).status)) c.pins
    (verify_reply right c).card.pins
unfolding verify_reply verify_checks
verify-replies true c h = record {
  pintries = refl;
  puktries = refl;
  pinleft = λ e. eqb-false c.pins.pin_tries 0 (not-true _ h.0);
  pukleft = λ e. absurd (false≢true e);
  blocked = λ e. absurd (false≢true e);
}
verify-replies false c h = record {
  pintries = rw (unset command.Verify refl pin (verify_reply false c).status) refl;
  puktries = rw (unset command.Verify refl puk (verify_reply false c).status) refl;
  pinleft = λ e. eqb-false c.pins.pin_tries 0 (not-true _ h.0);
  pukleft = λ e. absurd (false≢true e);
  blocked = λ e. absurd (false≢true e);
}

unblock-replies : (right : Bool) (c : Card) (d : List ℕ) → Hold (unblock_checks c.pins d)
    → Leaves (did (some (record { of = puk; right = right })) (given_by command.Unblock (unblock_reply right c (drop 12 d)).status)) c.pins
    (unblock_reply right c (drop 12 d)).card.pins
unfolding unblock_reply unblock_checks
unblock-replies true c d h = record {
  pintries = refl;
  puktries = refl;
  pinleft = λ e. absurd (false≢true e);
  pukleft = λ e. eqb-false c.pins.puk_tries 0 (not-true _ h.1.0);
  blocked = λ e. eqb-true c.pins.pin_tries 0 h.0;
}
unblock-replies false c d h = record {
  pintries = rw (unset command.Unblock refl pin (unblock_reply false c (drop 12 d)).status) refl;
  puktries = rw (unset command.Unblock refl puk (unblock_reply false c (drop 12 d)).status) refl;
  pinleft = λ e. absurd (false≢true e);
  pukleft = λ e. eqb-false c.pins.puk_tries 0 (not-true _ h.1.0);
  blocked = λ e. eqb-true c.pins.pin_tries 0 h.0;
}

-- GET STATUS and PAIR, by their cases; the five commands that a supply with flag 00 fails
status-kept : (c : Card) (which : StatusKind) → Kept c.pins (status_reply c which).card.pins
unfolding status_reply
status-kept c status.Application = (refl, refl)
status-kept c status.Path = (refl, refl)

pair-kept : (c : Card) (s : List ℕ) (f : Found ℕ) → Kept c.pins (pair_into c s f).card.pins
unfolding pair_into
pair-kept c s (Some i) = (refl, refl)
pair-kept c s None = (refl, refl)

flagged-kept : (p : Pins) (s : List ℕ) (x y : Reply) → Kept p x.card.pins → Kept p y.card.pins
    → Kept p (cond (says_yes s) x y).card.pins
flagged-kept p s x y a b = by-test (λ (r : Reply). Kept p r.card.pins) (says_yes s) (λ _. a) (λ _. b)

abbrev same : {m n : ℕ} → (m ≡ m) × (n ≡ n)
same = (refl, refl)

pub replies : (k : Command) → Replies k
unfolding rule_of select_reply open_reply mutual_reply pair_first_reply pair_final_reply unpair_reply load_reply derive_reply remove_reply pinless_reply sign_reply export_reply ndef_reply mnemonic_reply
replies command.Select = stays command.Select refl refl (λ b c d s. same)
replies command.Init = λ b c d s h. init-replies c d s
replies (command.Open i) = stays (command.Open i) refl refl (λ b c d s. (flagged-kept c.pins s _ _ same same))
replies command.Mutual = stays command.Mutual refl refl (λ b c d s. same)
replies command.PairFirst = stays command.PairFirst refl refl (λ b c d s. same)
replies command.PairFinal = stays command.PairFinal refl refl (λ b c d s. (pair-kept c s (first_free c.pairing.slots)))
replies (command.Unpair i) = stays (command.Unpair i) refl refl (λ b c d s. same)
replies (command.Status which) = stays (command.Status which) refl refl (λ b c d s. (status-kept c which))
replies command.Verify = λ b c d s h. verify-replies b c h
replies (command.Change which) = λ b c d s h. change-replies c which d
replies command.Unblock = λ b c d s h. unblock-replies b c d h
replies (command.Load form) = stays (command.Load form) refl refl (λ b c d s. (flagged-kept c.pins s _ _ same same))
replies command.Derive = stays command.Derive refl refl (λ b c d s. (flagged-kept c.pins s _ _ same same))
replies command.Remove = stays command.Remove refl refl (λ b c d s. same)
replies command.SetPinless = stays command.SetPinless refl refl (λ b c d s. same)
replies command.Sign = stays command.Sign refl refl (λ b c d s. same)
replies (command.Export which what) = stays (command.Export which what) refl refl (λ b c d s. (flagged-kept c.pins s _ _ same same))
replies command.SetNdef = stays command.SetNdef refl refl (λ b c d s. same)
replies (command.Mnemonic x) = stays (command.Mnemonic x) refl refl (λ b c d s. same)

-- ---- the checks: no status word of theirs is 9000
abbrev pub Errors : List Check → Type 0
Errors [] = Unit {0}
Errors (k ∷ more) = (eqb k.otherwise success ≡ false) × Errors more

pub by-verdict-errors : (P : Verdict → Type 0) (s : Supply) (l : List Check) → Errors l → (Hold l → P (Ok s))
    → ((w : ℕ) → eqb w success ≡ false → P (Err w)) → P (verdict s l)
by-verdict-errors P s [] e h f = h tt
by-verdict-errors P s (k ∷ more) e h f =
    by-test P k.holds (λ t. by-verdict-errors P s more e.1 (λ x. h (t, x)) f) (λ t. f k.otherwise e.0)

pub errors : (k : Command) (c : Card) (d : List ℕ) → Errors (checks_of k c d)
unfolding rule_of select_checks init_checks open_checks mutual_checks pair_first_checks pair_final_checks unpair_checks verify_checks change_checks unblock_checks load_checks derive_checks remove_checks pinless_checks sign_checks export_checks ndef_checks mnemonic_checks
errors command.Select c d = (refl, tt)
errors command.Init c d = (refl, tt)
errors (command.Open i) c d = (refl, (refl, tt))
errors command.Mutual c d = (refl, (refl, tt))
errors command.PairFirst c d = (refl, (refl, (refl, tt)))
errors command.PairFinal c d = (refl, (refl, (refl, (refl, tt))))
errors (command.Unpair i) c d = (refl, tt)
errors (command.Status which) c d = tt
errors command.Verify c d = (refl, tt)
errors (command.Change which) c d = (refl, (refl, tt))
errors command.Unblock c d = (refl, (refl, (refl, tt)))
errors (command.Load form) c d = (refl, (refl, tt))
errors command.Derive c d = (refl, (refl, tt))
errors command.Remove c d = (refl, tt)
errors command.SetPinless c d = (refl, (refl, tt))
errors command.Sign c d = (refl, (refl, tt))
errors (command.Export which what) c d = (refl, (refl, (refl, tt)))
errors command.SetNdef c d = (refl, (refl, tt))
errors (command.Mnemonic x) c d = (refl, tt)
