-- `Desk::buffer` meets its contract: what is left of an array of zeros is as many zeros.
-- Assumes nothing.
use Rattle.std.proofs.Common.{rules}
use mathlib.Core.Path.{◌∙◌}
use Rattle.std.proofs.lemmas.List.{take-replicate}
use Rattle.soft_state.proofs.Desk.buffer.Goals as goal

pub returns-clause-zeros : goal.returns-clause-zeros
returns-clause-zeros g c = c.zeros.ensures.zeros ∙ take-replicate c.args.room_bytes 1024 0 (search rules)
