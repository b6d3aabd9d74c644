-- The record's count is added as a count, by `add-as-sum`.
-- Assumes nothing.
use mathlib.Core.Path.{sym, ap, ◌∙◌}
use Rattle.stock_rules.specs.Counts.{add_counts}
use Rattle.stock_rules.proofs.BatchFacts.{add-as-sum}
use Rattle.stock_count.proofs.add_record.Goals as goal

pub returns : goal.returns
returns c = c.add_counts.ensures
    ∙ ap (add_counts c.args.c) c.of_record.ensures
    ∙ sym (add-as-sum c.args.c c.args.s.now)
