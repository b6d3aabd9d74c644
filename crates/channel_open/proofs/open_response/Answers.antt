-- A field of a right length is opened under the response's head block; any other is refused.
-- Assumes nothing.
use mathlib.Core.Path.{ap, ◌∙◌}
use Rattle.channel_rules.specs.Message.{response_head}
use Rattle.channel_open.proofs.Unsealed.{opens-formed, opens-unformed}
use Rattle.channel_open.proofs.open_response.Goals as goal

pub returns-in_err-n : goal.returns-in_err-n
returns-in_err-n c = let g = c.args in
    rw c.from_residual.ensures (opens-unformed g.s response_head g.field.now g.plain.now c.in_err-n.ensures)

pub returns : goal.returns
returns c = let g = c.args in
    let n = c.in_ok-n in
    opens-formed g.s response_head g.field.now c.response_head.result c.open_formed.result _ n.ensures.0
    (c.response_head.ensures ∙ ap response_head n.ensures.1) c.open_formed.ensures
