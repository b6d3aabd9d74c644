-- By the flag: failure with nothing written, or success with what was written. The supply's length follows from its form.
-- Assumes nothing.
use mathlib.Core.Path.{refl, sym, ◌∙◌}
use native.Mathlib.Omega.{arith}
use Rattle.rules.specs.Supplies.{open_supply}
use Rattle.command_parts.proofs.SupplyFacts.{suits-long, within}
use Rattle.command_open.proofs.ReplyFacts.{open-replied, open-refused}
use Rattle.command_open.proofs.open.Goals as goal

pub says_yes-requires : goal.says_yes-requires
says_yes-requires c =
    within (suits-long open_supply c.args.supply.now refl c.requires.0) (omega arith)

pub returns-then-not-says_yes : goal.returns-then-not-says_yes
returns-then-not-says_yes c =
    open-refused c.args.card c.args.supply.now (sym c.says_yes.ensures ∙ c.if-not-says_yes.true) c.failed.ensures

pub put_salt_iv-count-requires : goal.put_salt_iv-count-requires
put_salt_iv-count-requires c =
    (suits-long open_supply c.args.supply.now refl c.requires.0, c.requires.1)

pub opened_channel-channel-requires : goal.opened_channel-channel-requires
opened_channel-channel-requires c =
    suits-long open_supply c.args.supply.now refl c.requires.0

pub returns : goal.returns
returns c =
    open-replied c.args.card c.args.supply.now _ _ (sym c.says_yes.ensures ∙ c.if-not-says_yes.false)
    c.opened_channel-channel.ensures c.with_channel.ensures c.put_salt_iv-count.ensures c.replied.ensures
