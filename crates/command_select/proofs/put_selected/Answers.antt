-- By the flag, as the definition goes.
-- Assumes nothing.
use borrow.Author.Tests.{eq-eqb, ne_eqb}
use Rattle.command_select.proofs.put_selected.Goals as goal

pub returns-then-initialised-eq0 : goal.returns-then-initialised-eq0
returns-then-initialised-eq0 c =
    rw (eq-eqb c.args.initialised 0 c.if-initialised-eq0.true) c.put_key.ensures

pub returns-else-initialised-eq0 : goal.returns-else-initialised-eq0
returns-else-initialised-eq0 c =
    rw (ne_eqb c.args.initialised 0 c.if-initialised-eq0.false) c.put_info.ensures
