-- Salt and IV are written as they are in the supply.
-- Assumes nothing.
use mathlib.Core.List.{List, ◌++◌}
use mathlib.Core.Path.{ap₂}
use Prim.Native.Nat.{ℕ}
use Rattle.template_rules.proofs.WritingFacts.{wrote-same}
use Rattle.command_open.proofs.put_salt_iv.Goals as goal

pub returns : goal.returns
returns c =
    wrote-same (ap₂ (λ (l r : List ℕ). l ++ r) c.part-salt.ensures c.part-iv.ensures) c.put_both.ensures
