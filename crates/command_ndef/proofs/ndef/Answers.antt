-- The tap record is new.
-- Assumes nothing.
use Rattle.command_ndef.proofs.CheckFacts.{ndef-data}
use Rattle.command_ndef.proofs.Responses.{ndef-replied}
use Rattle.command_ndef.proofs.ndef.Goals as goal

pub tap_of-tap-requires : goal.tap_of-tap-requires
tap_of-tap-requires c = ndef-data c.args.card.pins _ c.requires

pub returns : goal.returns
returns c =
    ndef-replied c.args.card c.args.«data».now c.tap_of-tap.result c.with_tap-set.result
    c.done.result
    c.tap_of-tap.ensures c.with_tap-set.ensures c.done.ensures
