-- The library's test of each slot is the definition's.
-- Assumes nothing.
use Rattle.std.proofs.Common.{rules, tests, ◌∙◌}
use Rattle.std.proofs.lemmas.Iterator.{YieldsList-from_slice}
use Rattle.std.proofs.lemmas.Iterator.Search.{all_from_yields_List}
use Rattle.card.specs.Slots.{slot_within}
use Rattle.sound_bytes.proofs.Chains.{all_of-chain}
use Rattle.sound_pairing.proofs.slots_within.Goals as goal

pub returns : goal.returns
returns c =
    all_from_yields_List (slot_within c.args.most) _ _ _ c.all.ensures.ran (YieldsList-from_slice c.args.slots cc)
    (λ x b q k. search (rules, tests))
    ∙ all_of-chain (slot_within c.args.most) _
