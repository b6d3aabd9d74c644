-- A field of a right length is opened under the command's head block; any other is refused.
-- Assumes nothing.
use mathlib.Core.Path.{ap, ◌∙◌}
use Rattle.channel_rules.specs.Message.{command_head}
use Rattle.channel_open.proofs.Unsealed.{opens-formed, opens-unformed}
use Rattle.channel_open.proofs.open_command.Goals as goal

pub returns-in_err-n : goal.returns-in_err-n
returns-in_err-n c = let g = c.args in
    rw c.from_residual.ensures (opens-unformed g.s (command_head g.header) g.field.now g.plain.now c.in_err-n.ensures)

pub returns : goal.returns
returns c = let g = c.args in
    let n = c.in_ok-n in
    opens-formed g.s (command_head g.header) g.field.now c.command_head.result c.open_formed.result _ n.ensures.0
    (c.command_head.ensures ∙ ap (command_head g.header) n.ensures.1) c.open_formed.ensures
