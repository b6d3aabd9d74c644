-- By the key's kind, as the definition goes.
-- Assumes nothing.
use borrow.Author.Tests.{eq-eqb, ne_eqb}
use Rattle.command_select.proofs.key_uid_bytes.Goals as goal

pub returns-then-kind-eq-KEY_NONE : goal.returns-then-kind-eq-KEY_NONE
returns-then-kind-eq-KEY_NONE c = rw (eq-eqb c.args.kind 0 c.if-kind-eq-KEY_NONE.true)

pub returns : goal.returns
returns c = rw (ne_eqb c.args.kind 0 c.if-kind-eq-KEY_NONE.false)
