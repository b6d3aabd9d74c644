-- A command that is not plain, at step 6: its data are what the field opens to, and the card is that of step 1 with the command's MAC, since only
-- OPEN, which is plain, begins by closing the channel.
-- Assumes nothing.
use Rattle.std.specs.Prelude.{Err, Ok}
use mathlib.Core.Path.{◌≡◌, refl, sym, ◌∙◌, subst}
use mathlib.Core.Bool.{Bool, true, false, ◌||◌, false≢true}
use mathlib.Core.List.{List, [], ◌∷◌}
use mathlib.Core.Option.{some}
use Prim.Native.Nat.{ℕ}
use lib.Dec.{eqb}
use lib.ListN.{take}
use Rattle.template_rules.proofs.HeadFacts.{by-test}
use Rattle.card.specs.declared.Card.{Card}
use Rattle.card.specs.Slots.{all_of}
use Rattle.card.proofs.Tests.{both}
use Rattle.rules.specs.declared.Instruction.{Instruction}
use Rattle.rules.specs.Results.{Named}
use Rattle.rules.specs.declared.Unnamed.TheVariants as unnamed
use Rattle.rules.specs.declared.Loss.{Loss}
use Rattle.rules.specs.declared.Loss.TheVariants as loss
use Rattle.rules.specs.Rows.{row_of, class80, offered, is_plain}
use Rattle.rules.specs.Channel.{with_mac}
use Rattle.rules.specs.Steps.{step1, with_byte, on_card, name_of, Opened, opened_by, begun}
use Rattle.laws_commands.proofs.Arrival.{At, card_at, by-opened}
use Rattle.laws_commands.proofs.Table.{row_lawful}

-- ---- only OPEN, which is plain, begins by closing the channel: a test of the instructions of class 80
abbrev keeps : Loss → Bool
keeps loss.Channel = false
keeps loss.HalfOpen = true
keeps loss.Pending = true
keeps loss.Nothing = true

abbrev plain_or_keeps : Instruction → Bool
plain_or_keeps i = is_plain i || keeps (row_of i).loss

abbrev Passes : Named → Type 0
Passes (Ok i) = plain_or_keeps i ≡ true
Passes (Err unnamed.WrongClass) = Unit {0}
Passes (Err unnamed.Unknown) = Unit {0}

class80-passes : all_of plain_or_keeps class80 ≡ true
unfolding all_of
class80-passes = refl

listed-passes : (b : ℕ) (l : List Instruction) → all_of plain_or_keeps l ≡ true → Passes (on_card true (with_byte b l))
unfolding all_of
listed-passes b [] e = tt
listed-passes b (i ∷ more) e =
    let h = both (plain_or_keeps i) (all_of plain_or_keeps more) e in
    by-test (λ (n : Named). Passes (on_card true n)) (eqb b (row_of i).byte)
    (λ _. by-test Passes (offered (row_of i).offer true) (λ _. h.0) (λ _. tt)) (λ _. listed-passes b more h.1)

kept_by : (plain : Bool) (l : Loss) (c : Card) → plain ≡ false → (plain || keeps l) ≡ true → begun l c ≡ c
kept_by true l c p e = absurd (false≢true (sym p))
kept_by false loss.Channel c p e = absurd (false≢true e)
kept_by false loss.HalfOpen c p e = refl
kept_by false loss.Pending c p e = refl
kept_by false loss.Nothing c p e = refl

pub kept-over : (i : Instruction) (c : Card) → is_plain i ≡ false → begun (row_of i).loss c ≡ c
unfolding name_of
kept-over i c over = kept_by (is_plain i) (row_of i).loss c over
    (subst Passes ((row_lawful i).known over) (listed-passes (row_of i).byte class80 class80-passes))

-- ---- step 4 of a command that is not plain: what it opens to, and the card with its MAC
module _ (c : Card) (cmd : List ℕ) (x : At cmd (step1 cmd c)) (over : is_plain x.instruction ≡ false) where
  pub opened-over : (opened_by (step1 cmd c) cmd x.field ≡ some x.opened.data')
      × (x.opened.card ≡ with_mac (step1 cmd c) (take 16 x.field))
  opened-over = by-opened
      (λ (o : Opened). (opened_by (step1 cmd c) cmd x.field ≡ some o.data') × (o.card ≡ with_mac (step1 cmd c) (take 16 x.field)))
      x.instruction cmd (step1 cmd c) x.field (λ e. absurd (false≢true (sym over ∙ e))) (λ _ _ d e. (e, refl)) x.opened x.opens

  pub card-over : card_at x.instruction x.opened ≡ with_mac (step1 cmd c) (take 16 x.field)
  card-over = kept-over x.instruction x.opened.card over ∙ opened-over.1
