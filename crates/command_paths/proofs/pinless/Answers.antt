-- The PIN-less path is new.
-- Assumes nothing.
use Rattle.rules.specs.Commands.{pinless_reply}
use Rattle.command_paths.proofs.CheckFacts.{pinless-data}
use Rattle.command_paths.proofs.pinless.Goals as goal

pub path_of-path-requires : goal.path_of-path-requires
path_of-path-requires c = pinless-data c.args.card.pins _ c.requires

pub returns : goal.returns
unfolding pinless_reply
returns c =
    rw (c.done.ensures, c.with_keys-set.ensures, c.with_pinless-keys.ensures, c.path_of-path.ensures)
