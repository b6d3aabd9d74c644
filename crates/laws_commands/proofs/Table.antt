-- Every instruction is lawful, and so is every command that one lists; and which commands compare. One line an instruction, one a command.
-- Assumes nothing.
use Rattle.std.specs.Prelude.{Ok}
use mathlib.Core.Path.{◌≡◌, refl, sym, ◌∙◌, subst}
use mathlib.Core.Bool.{true, false, false≢true}
use mathlib.Core.List.{List, [], ◌∷◌}
use mathlib.Core.Option.{Option, none, some}
use Prim.Native.Nat.{ℕ}
use lib.Dec.{ltb, eqb}
use Rattle.template_rules.proofs.HeadFacts.{by-test}
use Rattle.card.specs.State.{slot_count}
use Rattle.card.specs.Slots.{is_zero}
use Rattle.rules.specs.declared.Instruction.{Instruction}
use Rattle.rules.specs.declared.Instruction.TheVariants as ins
use Rattle.rules.specs.declared.Loss.TheVariants as loss
use Rattle.rules.specs.declared.StatusKind.TheVariants as status
use Rattle.rules.specs.declared.SecretKind.TheVariants as secret
use Rattle.rules.specs.declared.KeyForm.TheVariants as key
use Rattle.rules.specs.declared.ExportPath.TheVariants as export_path
use Rattle.rules.specs.declared.ExportPart.{ExportPart}
use Rattle.rules.specs.declared.ExportPart.TheVariants as export_part
use Rattle.rules.specs.declared.Phrase.TheVariants as phrase
use Rattle.rules.specs.declared.Command.{Command}
use Rattle.rules.specs.declared.Command.TheVariants as command
use Rattle.rules.specs.Rules.{Secret, pin, puk}
use Rattle.rules.specs.Commands.{rule_of}
use Rattle.rules.specs.Rows.{at_p1, one_of, slot, one_of_each, exports, of_phrase, row_of, is_plain}
use Rattle.rules.specs.Steps.{name_of, in_stage}
use Rattle.laws_commands.specs.Lawful.{Lawful, Each, LawfulRow}
use Rattle.laws_commands.proofs.ChannelCommands.{select-lawful, init-lawful, open-lawful, mutual-lawful, pair-first-lawful, pair-final-lawful, unpair-lawful}
use Rattle.laws_commands.proofs.PinCommands.{status-lawful, verify-lawful, change-lawful, unblock-lawful}
use Rattle.laws_commands.proofs.KeyCommands.{load-lawful, derive-lawful, remove-lawful, pinless-lawful, sign-lawful, export-lawful, ndef-lawful, mnemonic-lawful}

-- ---- what holds of each command that is listed holds of the one that P1 and P2 name
module _ (P : Command → Type 0) where
  abbrev All : List (ℕ × Command) → Type 0
  All [] = Unit {0}
  All (x ∷ more) = P x.1 × All more

  at-p1 : (l : List (ℕ × Command)) → All l → (p1 : ℕ) → Each P (at_p1 l p1)
  at-p1 [] h p1 = tt
  at-p1 (x ∷ more) h p1 = by-test (Each P) (eqb p1 x.0) (λ e. h.0) (λ e. at-p1 more h.1 p1)

  one-of : (l : List (ℕ × Command)) → All l → (p1 p2 : ℕ) → Each P (one_of l p1 p2)
  one-of l h p1 p2 = by-test (Each P) (is_zero p2) (λ e. at-p1 l h p1) (λ e. tt)

  of-slot : (k : ℕ → Command) → ((n : ℕ) → P (k n)) → (p1 p2 : ℕ) → Each P (slot k p1 p2)
  of-slot k h p1 p2 = by-test (Each P) (is_zero p2) (λ e. by-test (Each P) (ltb p1 slot_count) (λ t. h p1) (λ t. tt)) (λ e. tt)

  one-of-each : (l m : List (ℕ × Command)) → All l → All m → (p1 p2 : ℕ) → Each P (one_of_each l m p1 p2)
  one-of-each l m h g p1 p2 = by-test (Each P) (is_zero p2) (λ e. at-p1 l h p1)
      (λ e. by-test (Each P) (eqb p2 0x01) (λ t. at-p1 m g p1) (λ t. tt))

-- ---- a row of a plain instruction: what is said of those over the channel does not concern it
plain_row : (i : Instruction) → is_plain i ≡ true → in_stage i 2 ≡ true → ((p1 p2 : ℕ) → Each (Lawful i) ((row_of i).lists p1 p2)) → LawfulRow i
plain_row i p t l = record {
  known = λ e. absurd (false≢true (sym e ∙ p));
  begins = λ e. absurd (false≢true (sym e ∙ p));
  fails = λ e. absurd (false≢true (sym e ∙ p));
  stage = t;
  lists = l;
}

-- ---- a row of an instruction over the channel that gives nothing up
sealed-row : (i : Instruction) → name_of true 0x80 (row_of i).byte ≡ Ok i → (row_of i).loss ≡ loss.Nothing → in_stage i 2 ≡ true
    → ((p1 p2 : ℕ) → Each (Lawful i) ((row_of i).lists p1 p2)) → LawfulRow i
sealed-row i n e t l = record { known = λ _. n; begins = λ _ c. rw e; fails = λ _ p1 c h. rw e; stage = t; lists = l }

-- ---- the three commands of EXPORT that let this out
exports-lawful : (what : ExportPart) → All (Lawful ins.Export) (exports what)
exports-lawful what = (export-lawful export_path.Current what, (export-lawful export_path.Given what, (export-lawful export_path.MakeCurrent what, tt)))

-- ---- the table
pub row_lawful : (i : Instruction) → LawfulRow i
unfolding name_of
row_lawful ins.Select = plain_row ins.Select refl refl (one-of (Lawful ins.Select) ((0x04, command.Select) ∷ []) (select-lawful, tt))
row_lawful ins.Init = plain_row ins.Init refl refl (one-of (Lawful ins.Init) ((0x00, command.Init) ∷ []) (init-lawful, tt))
row_lawful ins.Open = plain_row ins.Open refl refl (of-slot (Lawful ins.Open) command.Open open-lawful)
row_lawful ins.Mutual = record { known = λ e. refl; begins = λ e c. refl; fails = λ e p1 c h. rw h; stage = refl; lists = one-of (Lawful ins.Mutual) ((0x00, command.Mutual) ∷ []) (mutual-lawful, tt) }
row_lawful ins.Pair = plain_row ins.Pair refl refl (one-of (Lawful ins.Pair) ((0x00, command.PairFirst) ∷ (0x01, command.PairFinal) ∷ []) (pair-first-lawful, (pair-final-lawful, tt)))
row_lawful ins.Unpair = sealed-row ins.Unpair refl refl refl (of-slot (Lawful ins.Unpair) command.Unpair unpair-lawful)
row_lawful ins.Status = sealed-row ins.Status refl refl refl (one-of (Lawful ins.Status) ((0x00, command.Status status.Application) ∷ (0x01, command.Status status.Path) ∷ []) (status-lawful status.Application, (status-lawful status.Path, tt)))
row_lawful ins.Verify = sealed-row ins.Verify refl refl refl (one-of (Lawful ins.Verify) ((0x00, command.Verify) ∷ []) (verify-lawful, tt))
row_lawful ins.Change = sealed-row ins.Change refl refl refl (one-of (Lawful ins.Change) ((0x00, command.Change secret.Pin) ∷ (0x01, command.Change secret.Puk) ∷ (0x02, command.Change secret.Pairing) ∷ []) (change-lawful secret.Pin, (change-lawful secret.Puk, (change-lawful secret.Pairing, tt))))
row_lawful ins.Unblock = sealed-row ins.Unblock refl refl refl (one-of (Lawful ins.Unblock) ((0x00, command.Unblock) ∷ []) (unblock-lawful, tt))
row_lawful ins.Load = sealed-row ins.Load refl refl refl (one-of (Lawful ins.Load) ((0x01, command.Load key.Keypair) ∷ (0x02, command.Load key.Extended) ∷ (0x03, command.Load key.Seed) ∷ []) (load-lawful key.Keypair, (load-lawful key.Extended, (load-lawful key.Seed, tt))))
row_lawful ins.Derive = sealed-row ins.Derive refl refl refl (one-of (Lawful ins.Derive) ((0x00, command.Derive) ∷ []) (derive-lawful, tt))
row_lawful ins.Remove = sealed-row ins.Remove refl refl refl (one-of (Lawful ins.Remove) ((0x00, command.Remove) ∷ []) (remove-lawful, tt))
row_lawful ins.SetPinless = sealed-row ins.SetPinless refl refl refl (one-of (Lawful ins.SetPinless) ((0x00, command.SetPinless) ∷ []) (pinless-lawful, tt))
row_lawful ins.Sign = sealed-row ins.Sign refl refl refl (one-of (Lawful ins.Sign) ((0x00, command.Sign) ∷ []) (sign-lawful, tt))
row_lawful ins.Export = sealed-row ins.Export refl refl refl (one-of-each (Lawful ins.Export) (exports export_part.PrivateAndPublic) (exports export_part.PublicOnly) (exports-lawful export_part.PrivateAndPublic) (exports-lawful export_part.PublicOnly))
row_lawful ins.SetNdef = sealed-row ins.SetNdef refl refl refl (one-of (Lawful ins.SetNdef) ((0x00, command.SetNdef) ∷ []) (ndef-lawful, tt))
row_lawful ins.Mnemonic = sealed-row ins.Mnemonic refl refl refl (one-of (Lawful ins.Mnemonic) (of_phrase phrase.Words12 ∷ of_phrase phrase.Words15 ∷ of_phrase phrase.Words18 ∷ of_phrase phrase.Words21 ∷ of_phrase phrase.Words24 ∷ []) (mnemonic-lawful phrase.Words12, (mnemonic-lawful phrase.Words15, (mnemonic-lawful phrase.Words18, (mnemonic-lawful phrase.Words21, (mnemonic-lawful phrase.Words24, tt))))))

pub lawful : (i : Instruction) (p1 p2 : ℕ) (k : Command) → (row_of i).lists p1 p2 ≡ some k → Lawful i k
lawful i p1 p2 k e = subst (Each (Lawful i)) e ((row_lawful i).lists p1 p2)

-- ---- the two commands that compare, and that no other rule compares
abbrev pub command_of : Secret → Command
command_of pin = command.Verify
command_of puk = command.Unblock

abbrev Only : Command → Option Secret → Type 0
Only k none = Unit {0}
Only k (some s) = k ≡ command_of s

only : (k : Command) → Only k (rule_of k).compares
unfolding rule_of
only command.Select = tt
only command.Init = tt
only (command.Open i) = tt
only command.Mutual = tt
only command.PairFirst = tt
only command.PairFinal = tt
only (command.Unpair i) = tt
only (command.Status which) = tt
only command.Verify = refl
only (command.Change which) = tt
only command.Unblock = refl
only (command.Load form) = tt
only command.Derive = tt
only command.Remove = tt
only command.SetPinless = tt
only command.Sign = tt
only (command.Export which what) = tt
only command.SetNdef = tt
only (command.Mnemonic x) = tt

pub only-compares : (k : Command) (s : Secret) → (rule_of k).compares ≡ some s → k ≡ command_of s
only-compares k s e = subst (Only k) e (only k)
