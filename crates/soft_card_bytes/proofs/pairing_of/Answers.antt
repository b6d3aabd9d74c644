-- Each field is read at its place.
-- Assumes nothing.
use mathlib.Core.Path.{ap, ◌∙◌}
use Rattle.card.specs.State.{slot_count}
use Rattle.record_rules.specs.Parse.{slots_from}
use Rattle.soft_card_bytes.proofs.pairing_of.Goals as goal

pub returns : goal.returns
returns c = rw (c.part.ensures, c.slots_from.ensures ∙ ap (slots_from slot_count) c.part-2.ensures, c.part-3.ensures)
