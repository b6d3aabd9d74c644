-- The three parts of the supply are written as the template.
-- Assumes nothing.
use mathlib.Core.Path.{refl}
use native.Mathlib.Omega.{arith}
use Rattle.rules.specs.Supplies.{sign_supply}
use Rattle.rules.specs.Commands.{sign_reply}
use Rattle.command_parts.proofs.SupplyFacts.{suits-long, within}
use Rattle.command_parts.proofs.ReplyFacts.{wrote-replies}
use Rattle.command_sign.proofs.sign.Goals as goal

pub slice_bounds-key-end : goal.slice_bounds-key-end
slice_bounds-key-end c =
    within (suits-long sign_supply c.args.supply.now refl c.requires.0) (omega arith)

pub slice_bounds-r-end : goal.slice_bounds-r-end
slice_bounds-r-end c =
    within (suits-long sign_supply c.args.supply.now refl c.requires.0) (omega arith)

pub slice_bounds-s-end : goal.slice_bounds-s-end
slice_bounds-s-end c =
    within (suits-long sign_supply c.args.supply.now refl c.requires.0) (omega arith)

pub returns : goal.returns
unfolding sign_reply
returns c =
    wrote-replies c.args.card _ c.replied.ensures refl c.put_signature-count.ensures
