-- READ's answer, counted.
-- Assumes nothing.
use mathlib.Core.Path.{ap, ◌∙◌}
use Rattle.stock_rules.specs.Rows.{one_of}
use Rattle.stock_record.proofs.of_record.Goals as goal

pub returns : goal.returns
returns c = c.of_answer.ensures ∙ ap one_of c.read.ensures
