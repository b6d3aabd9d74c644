-- EXPORT by its flag: nothing changes without it; with it the keys go out, and the given path becomes current where P1 says so.
-- Assumes nothing.
use mathlib.Core.Path.{refl, sym, ◌∙◌}
use native.Mathlib.Omega.{arith}
use Rattle.rules.specs.Supplies.{export_supply}
use Rattle.command_parts.proofs.SupplyFacts.{suits-long, within}
use Rattle.command_export.proofs.CheckFacts.{export-data}
use Rattle.command_export.proofs.ExportReplies.{export-no, export-yes}
use Rattle.command_export.proofs.export.Goals as goal

pub keys_after-keys-requires : goal.keys_after-keys-requires
keys_after-keys-requires c =
    export-data c.args.card.pins c.args.card.keys c.args.which c.args.what _ c.requires.hold.0

pub says_yes-requires : goal.says_yes-requires
says_yes-requires c =
    within (suits-long export_supply c.args.supply.now refl c.requires.hold.1) (omega arith)

pub returns-then-not-says_yes : goal.returns-then-not-says_yes
returns-then-not-says_yes c = let a = c.args in
    export-no a.card a.which a.what a.«data».now a.supply.now
    (sym c.says_yes.ensures ∙ c.if-not-says_yes.true) c.failed.ensures

pub put_exported-count-requires : goal.put_exported-count-requires
put_exported-count-requires c =
    (suits-long export_supply c.args.supply.now refl c.requires.hold.1, c.requires.in_bounds)

pub returns : goal.returns
returns c =
    let a = c.args in
    export-yes a.card a.which a.what a.«data».now a.supply.now _ _
    (sym c.says_yes.ensures ∙ c.if-not-says_yes.false) c.put_exported-count.ensures c.keys_after-keys.ensures
    c.with_keys-exported.ensures c.replied.ensures
