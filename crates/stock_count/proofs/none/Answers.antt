-- The numbers of no records are zero.
-- Assumes nothing.
use Rattle.stock_rules.specs.Rows.{count_of, total}
use mathlib.Core.Path.{refl}
use Rattle.stock_count.proofs.none.Goals as goal

pub returns : goal.returns
unfolding count_of total
returns c = refl
