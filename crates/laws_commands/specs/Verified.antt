-- What becomes of verification while the channel stays in stage 2 (RULES 6.2): a comparison decides, and without one it is as it was.
use Rattle.std.specs.Prelude.{Bool, ◌||◌}
use Rattle.std.proofs.Math.Option.{Option, none, some}
use Rattle.rules.specs.Rules.{Secret, pin, puk}
use Rattle.rules.specs.Comparison.{Comparison}

-- ---- a right PIN verifies and a wrong one ends it; a right PUK verifies and a wrong one leaves it as it was
abbrev pub verified_by : Secret → Bool → Bool → Bool
verified_by pin right was = right
verified_by puk right was = right || was

-- by the secret that a command compares, if any, and how that came out
abbrev pub verified_if : Option Secret → Bool → Bool → Bool
verified_if none right was = was
verified_if (some s) right was = verified_by s right was

-- by the comparison that a call made, if any
abbrev pub verified_after : Option Comparison → Bool → Bool
verified_after none was = was
verified_after (some x) was = verified_by x.of x.right was
