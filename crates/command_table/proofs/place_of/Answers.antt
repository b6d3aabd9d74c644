-- LOAD has its own offset; that no other command has one is `no_place`.
-- Assumes nothing.
use Rattle.rules.specs.Commands.{rule_of}
use Rattle.command_table.proofs.Facts.{no_place}
use Rattle.command_table.proofs.place_of.Goals as goal

pub returns-in_default : goal.returns-in_default
returns-in_default c = no_place c.args.k c.args.«data».now c.in_default.not-Load

pub returns : goal.returns
unfolding rule_of
returns c = rw c.in-Load.is c.load_place.ensures
