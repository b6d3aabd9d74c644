-- LOAD by its flag: nothing changes without it; with it the key UID is hashed and written and the keys are new, by `load-yes`.
-- Assumes nothing.
use mathlib.Core.Path.{refl, sym, ◌∙◌}
use native.Mathlib.Omega.{arith}
use Rattle.rules.specs.Supplies.{load_supply}
use Rattle.command_parts.proofs.SupplyFacts.{suits-long, within}
use Rattle.command_load.proofs.KeyReplies.{load-no, load-yes}
use Rattle.command_load.proofs.load.Goals as goal

pub says_yes-requires : goal.says_yes-requires
says_yes-requires c =
    within (suits-long load_supply c.args.supply.now refl c.requires.0) (omega arith)

pub returns-then-not-says_yes : goal.returns-then-not-says_yes
returns-then-not-says_yes c =
    load-no c.args.card c.args.form c.args.supply.now (sym c.says_yes.ensures ∙ c.if-not-says_yes.true) c.failed.ensures

pub slice_bounds-sha256-end : goal.slice_bounds-sha256-end
slice_bounds-sha256-end c =
    within (suits-long load_supply c.args.supply.now refl c.requires.0) (omega arith)

pub returns : goal.returns
returns c =
    load-yes c.args.card c.args.form c.args.supply.now _ _ _ _
    (sym c.says_yes.ensures ∙ c.if-not-says_yes.false) c.sha256-uid.ensures c.put.ensures c.kind_of.ensures
    c.key_with-keys.ensures c.with_keys-loaded.ensures c.replied.ensures
