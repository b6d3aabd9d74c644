-- Each test is the definition, part by part.
-- Assumes nothing.

use Rattle.plan_make.proofs.needed.Goals as goal

pub returns : goal.returns
returns c = rw (c.is_at-set.ensures, c.is_at-derive.ensures)
