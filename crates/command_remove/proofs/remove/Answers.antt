-- The keys are those of a card without a key.
-- Assumes nothing.
use Rattle.rules.specs.Commands.{remove_reply}
use Rattle.command_remove.proofs.remove.Goals as goal

pub returns : goal.returns
unfolding remove_reply
returns c = rw (← c.key_with-keys.ensures, ← c.with_keys-removed.ensures) c.done.ensures
