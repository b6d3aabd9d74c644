-- The test is the definition, rule by rule: each sum is what its call gave.
-- Assumes nothing.
use mathlib.Core.Path.{ap, ap₂}
use mathlib.Core.Bool.{◌&&◌}
use Prim.Native.Nat.{ℕ, ◌+◌, ◌*◌}
use lib.Dec.{eqb, leb}
use Rattle.stock_rules.specs.Counts.{fed_most, slots_most, is_count}
use Rattle.stock_sound.proofs.sound.Goals as goal

pub returns : goal.returns
unfolding is_count
returns c = let kinds = c.of_kinds-kinds.ensures.0 in
    ap₂ ◌&&◌
    (ap₂ ◌&&◌
    (ap₂ ◌&&◌ (ap₂ eqb (ap₂ ◌+◌ c.wide-fresh.ensures.0 kinds) c.wide-read.ensures.0) (ap₂ eqb c.of_tries.ensures.0 kinds))
    (ap (λ (n : ℕ). leb n fed_most) c.fed_of-few.ensures.0))
    (ap₂ leb c.wide-slots.ensures.0 (ap (λ (n : ℕ). slots_most * n) kinds))
