-- A card that the form does not hold has no record in it; of another the record is compared.
-- Assumes nothing.
use mathlib.Core.Path.{sym, ◌∙◌}
use Rattle.card.proofs.SoundFacts.{path-lengths, tap-length}
use Rattle.record_read.proofs.is_in_form.Goals as goal

pub is_written-requires : goal.is_written-requires
is_written-requires c = let h = c.requires in
    let l = path-lengths _ h.0 in
    (l.0, (l.1, (tap-length _ h.0, h.1)))

pub returns-then-is_held : goal.returns-then-is_held
returns-then-is_held c = c.is_written.ensures ∙ sym (rw (sym c.is_held.ensures ∙ c.if-is_held.true))

pub returns-else-is_held : goal.returns-else-is_held
returns-else-is_held c = sym (rw (sym c.is_held.ensures ∙ c.if-is_held.false))
