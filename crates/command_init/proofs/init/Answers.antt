-- What was opened decides, as the definition does. The lengths of data and supply follow from their form.
-- Assumes nothing.
use mathlib.Core.Path.{refl}
use Rattle.rules.specs.Supplies.{init_supply}
use Rattle.command_parts.proofs.SupplyFacts.{suits-long}
use Rattle.command_init.proofs.InitFacts.{formed-long, init-replied, init-refused}
use Rattle.command_init.proofs.init.Goals as goal

pub open_init-requires : goal.open_init-requires
open_init-requires c =
    (formed-long c.args.«data».now c.requires.0, suits-long init_supply c.args.supply.now refl c.requires.1)

pub returns-in-Some : goal.returns-in-Some
returns-in-Some c = let a = c.args in
    init-replied a.card a.«data».now a.supply.now c.in-Some.content _ c.in-Some.ensures c.initialised_with.ensures c.done.ensures

pub returns-in-None : goal.returns-in-None
returns-in-None c = let a = c.args in init-refused a.card a.«data».now a.supply.now c.in-None.ensures c.failed.ensures
