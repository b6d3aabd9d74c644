-- By cases on the length; what comes after the PUK is tested as the definition says.
-- Assumes nothing.
use mathlib.Core.Path.{ap, ◌∙◌}
use mathlib.Core.List.{List}
use Prim.Native.Nat.{ℕ}
use borrow.Author.Tests.{eq-eqb, ne_eqb}
use Rattle.card.specs.Slots.{all_of}
use Rattle.card.specs.Sound.{is_digit}
use Rattle.command_unblock.proofs.CheckFacts.{after-puk}
use Rattle.command_unblock.proofs.is_unblocking.Goals as goal

pub returns-then-data-ne-UNBLOCK_BYTES : goal.returns-then-data-ne-UNBLOCK_BYTES
returns-then-data-ne-UNBLOCK_BYTES c = rw (ne_eqb _ _ c.if-data-ne-UNBLOCK_BYTES.true)

pub returns : goal.returns
returns c = rw (eq-eqb _ _ c.if-data-ne-UNBLOCK_BYTES.false)
    (c.digits.ensures ∙ ap (λ (l : List ℕ). all_of is_digit l) (after-puk c.args.«data».now))
