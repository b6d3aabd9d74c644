-- DERIVE by its flag: nothing changes without it; with it the current path is new.
-- Assumes nothing.
use mathlib.Core.Path.{refl, sym, ◌∙◌}
use native.Mathlib.Omega.{arith}
use Rattle.rules.specs.Supplies.{derive_supply}
use Rattle.rules.specs.Commands.{derive_reply}
use Rattle.command_parts.proofs.SupplyFacts.{suits-long, within}
use Rattle.command_paths.proofs.CheckFacts.{derive-data}
use Rattle.command_paths.proofs.derive.Goals as goal

pub says_yes-requires : goal.says_yes-requires
says_yes-requires c =
    within (suits-long derive_supply c.args.supply.now refl c.requires.1) (omega arith)

pub returns-then-not-says_yes : goal.returns-then-not-says_yes
unfolding derive_reply
returns-then-not-says_yes c = rw (sym c.says_yes.ensures ∙ c.if-not-says_yes.true) c.failed.ensures

pub path_of-path-requires : goal.path_of-path-requires
path_of-path-requires c =
    derive-data c.args.card.pins c.args.card.keys _ c.requires.0

pub returns : goal.returns
unfolding derive_reply
returns c =
    rw (
      sym c.says_yes.ensures ∙ c.if-not-says_yes.false,
      ← c.path_of-path.ensures,
      ← c.with_current-keys.ensures,
      ← c.with_keys-derived.ensures,
    )
    c.done.ensures
