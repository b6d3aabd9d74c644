-- The head block of a response, written out.
-- Assumes nothing.
use mathlib.Core.Path.{refl}
use Rattle.channel_heads.proofs.response_head.Goals as goal

pub returns : goal.returns
returns c = refl
