-- Both blocks are AES-256 of the block, so that they are the same.
-- Assumes nothing.
use mathlib.Core.Path.{sym, ◌∙◌}
use Rattle.aes_engines.proofs.encrypt_by_both.Goals as goal

pub returns : goal.returns
returns c = let plain = c.encrypt_plainly-plain.ensures in
    let tables = c.encrypt_by_tables-tables.ensures in
    record { enciphered = plain; enciphered_2 = tables; plain_value = plain ∙ sym tables }
