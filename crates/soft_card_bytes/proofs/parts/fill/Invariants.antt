-- The bytes are filled one by one. Invariant: those passed are the first of `fit`.
-- Assumes nothing.
use mathlib.Core.Path.{◌≡◌}
use lib.ListN.{take}
use Rattle.record_rules.specs.Parse.{fit}
use Rattle.soft_card_bytes.proofs.parts.fill.Given as goal

abbrev pub invariant-loop-i : goal.invariant-loop-i
invariant-loop-i l = take l.i l.dst ≡ fit l.i l.source
