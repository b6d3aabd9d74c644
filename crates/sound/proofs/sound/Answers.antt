-- Whether the card is sound: by cases on the flag, from what the tests of the parts ensure.
-- Assumes nothing.
use mathlib.Core.Path.{◌∙◌}
use borrow.Author.Tests.{eq-eqb, ne_eqb}
use Rattle.card.specs.Sound.{is_sound}
use Rattle.sound.proofs.sound.Goals as goal

pub returns-then-card-eq0 : goal.returns-then-card-eq0
unfolding is_sound
returns-then-card-eq0 c = c.parts_blank.ensures ∙ rw (eq-eqb _ _ c.if-card-eq0.true)

pub returns : goal.returns
unfolding is_sound
returns c = rw (ne_eqb _ _ c.if-card-eq0.false, c.parts_sound.ensures)
