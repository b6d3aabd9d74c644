-- The bytes are written into zeros, by `tap-put`.
-- Assumes nothing.
use Rattle.command_ndef.proofs.TapFacts.{tap-put}
use Rattle.command_ndef.proofs.tap_of.Goals as goal

pub returns : goal.returns
returns c = tap-put c.args.«data».now _ c.put.ensures
