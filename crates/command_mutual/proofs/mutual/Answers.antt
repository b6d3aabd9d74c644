-- MUTUAL: the supply, 32 bytes, is written from the start.
-- Assumes nothing.
use mathlib.Core.Path.{refl}
use native.Mathlib.Omega.{arith}
use Rattle.rules.specs.Supplies.{mutual_supply}
use Rattle.command_parts.proofs.SupplyFacts.{suits-long}
use Rattle.command_mutual.proofs.ReplyFacts.{mutual-replies}
use Rattle.command_mutual.proofs.mutual.Goals as goal

pub put-requires : goal.put-requires
put-requires c =
    omega (arith, suits-long mutual_supply c.args.supply.now refl c.requires.0, c.requires.1)

pub returns : goal.returns
returns c =
    mutual-replies c.args.card _ c.args.supply.now _ _ (suits-long mutual_supply _ refl c.requires.0) c.in_stage_2-authenticated.ensures
    c.with_channel.ensures c.put.ensures c.replied.ensures
