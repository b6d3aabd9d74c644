-- The place of the first byte that is not zero is how many zeros come before it.
-- Assumes nothing.
use Rattle.std.proofs.Common.{◌∙◌}
use Rattle.std.proofs.lemmas.Grind.{common_steps}
use native.Mathlib.Omega.{arith}
use Rattle.template_rules.proofs.DerFacts.{FirstNonzero, zeros-found}
use Rattle.template_der_digits.proofs.leading_zeros.Goals as goal

pub returns : goal.returns
returns c =
    let found : FirstNonzero c.args.number.now c.position.result = grind (arith, common_steps) in
    c.unwrap_or.ensures ∙ zeros-found c.args.number.now c.position.result found
