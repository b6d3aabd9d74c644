-- By the status word: the rule's place with 6A80, none with another.
-- Assumes nothing.
use borrow.Author.Tests.{eq-eqb, ne_eqb}
use Rattle.rules.specs.Words.{wrong_data}
use Rattle.rules.specs.Steps.{fault_at}
use Rattle.command_table.proofs.fault_at.Goals as goal

pub returns-then-status-eq-WRONG_DATA : goal.returns-then-status-eq-WRONG_DATA
unfolding fault_at
returns-then-status-eq-WRONG_DATA c = rw (eq-eqb c.args.status wrong_data c.if-status-eq-WRONG_DATA.true) c.place_of-place.ensures

pub returns : goal.returns
unfolding fault_at
returns c = rw (ne_eqb c.args.status wrong_data c.if-status-eq-WRONG_DATA.false)
