-- Each slot from the index on is tested.
-- Assumes nothing.
use Rattle.std.proofs.Common.{rules, tests, ◌∙◌}
use Rattle.std.proofs.lemmas.Iterator.{YieldsList-from_slice}
use Rattle.std.proofs.lemmas.Iterator.Search.{all_from_yields_List}
use Rattle.std.proofs.lemmas.Iterator.Adapters.{YieldsList-from_skip}
use Rattle.card.specs.Slots.{is_free}
use Rattle.card_slots.proofs.FreeFacts.{all-of-chain}
use Rattle.card_slots.proofs.free_from.Goals as goal

pub returns : goal.returns
returns c =
    all_from_yields_List is_free _ _ _ c.all.ensures.ran (YieldsList-from_skip c.args.first (YieldsList-from_slice c.args.slots cc) (cc))
    (λ x b q k. search (rules, tests))
    ∙ all-of-chain is_free _
