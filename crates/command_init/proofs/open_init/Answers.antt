-- By the flag; what is deciphered is the ciphertext.
-- Assumes nothing.
use mathlib.Core.Path.{sym, ap, ◌∙◌}
use Rattle.command_init.specs.Content.{right}
use Rattle.command_init.proofs.InitFacts.{brought_content-yes, brought_content-no}
use Rattle.command_init.proofs.open_init.Goals as goal

pub returns-then-not-says_yes : goal.returns-then-not-says_yes
returns-then-not-says_yes c =
    brought_content-no c.args.«data».now c.args.supply.now (sym c.says_yes.ensures ∙ c.if-not-says_yes.true)

pub returns : goal.returns
returns c =
    c.decipher.ensures
    ∙ ap right (brought_content-yes c.args.«data».now c.args.supply.now _ _ _ (sym c.says_yes.ensures ∙ c.if-not-says_yes.false)
    c.part-key.ensures c.part-iv.ensures c.part-ciphertext.ensures)
