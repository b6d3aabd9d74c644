-- Both results are AES-256 of the block, so that they are the same.
-- Assumes nothing.
use mathlib.Core.Path.{ap₂, ◌∙◌}
use Rattle.octets.specs.Bytes.{same_bytes}
use Rattle.octets.proofs.Lists.{same_refl}
use Rattle.aes_rules.specs.Aes.{aes256}
use Rattle.aes_engines.proofs.agree.Goals as goal

pub returns : goal.returns
returns c = c.same.ensures
    ∙ ap₂ same_bytes c.encrypt_plainly-plain.ensures c.encrypt_by_tables-tables.ensures
    ∙ same_refl (aes256 c.args.key.now c.args.s)
