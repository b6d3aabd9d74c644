-- By what the search answers: the slot found is filled, or nothing is written.
-- Assumes nothing.
use mathlib.Core.Path.{refl, sym, ◌∙◌}
use native.Mathlib.Omega.{arith}
use Rattle.rules.specs.Supplies.{pair_final_supply}
use Rattle.command_parts.proofs.SupplyFacts.{suits-long, within}
use Rattle.command_pair.proofs.ReplyFacts.{final-replied, final-refused}
use Rattle.command_pair.proofs.pair_final.Goals as goal

pub returns-in_default : goal.returns-in_default
returns-in_default c =
    final-refused c.args.card c.args.supply.now c.not_pending-pairing.result _ c.with_pairing.ensures
    (sym c.in_default.is ∙ c.first_free.ensures.0) c.not_pending-pairing.ensures c.failed.ensures

pub index_byte-requires : goal.index_byte-requires
index_byte-requires c = sym c.in-Some.is ∙ c.first_free.ensures.0

pub part-salt-requires : goal.part-salt-requires
part-salt-requires c =
    (omega arith, within (suits-long pair_final_supply c.args.supply.now refl c.requires.0) (omega arith))

pub returns : goal.returns
returns c =
    final-replied c.args.card c.args.supply.now c.filled_at-pairing.result _ c.with_pairing-2.ensures c.in-Some.i
    c.index_byte.result c.part-salt.result c.with_secret-key.result (sym c.in-Some.is ∙ c.first_free.ensures.0)
    c.index_byte.ensures.0 c.part-salt.ensures c.with_secret-key.ensures c.filled_at-pairing.ensures c.put_both-count.ensures
    c.replied.ensures
