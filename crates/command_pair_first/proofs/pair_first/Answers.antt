-- What was written and the card with the pending pairing are the reply of PAIR's first step.
-- Assumes nothing.
use mathlib.Core.Path.{refl}
use native.Mathlib.Omega.{arith}
use Rattle.rules.specs.Supplies.{pair_first_supply}
use Rattle.command_parts.proofs.SupplyFacts.{suits-long, within}
use Rattle.command_pair_first.proofs.ReplyFacts.{first-replied}
use Rattle.command_pair_first.proofs.pair_first.Goals as goal

pub part-challenge-requires : goal.part-challenge-requires
part-challenge-requires c =
    (omega arith, within (suits-long pair_first_supply c.args.supply.now refl c.requires.supply_value.0) (omega arith))

pub returns : goal.returns
returns c =
    first-replied c.args.card c.args.«data».now c.args.supply.now c.requires.data_len c.part-client.result
    c.with_secret-cryptogram.result c.part-challenge.result c.with_secret-expected.result c.pending_with-pairing.result _ c.part-client.ensures
    c.part-challenge.ensures c.with_secret-cryptogram.ensures c.with_secret-expected.ensures c.pending_with-pairing.ensures c.put_both-count.ensures
    c.with_pairing.ensures c.replied.ensures
