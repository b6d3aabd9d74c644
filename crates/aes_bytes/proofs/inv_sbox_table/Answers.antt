-- The constant table is the inverse S-box of the definitions, entry for entry.
-- Assumes nothing.
use mathlib.Core.Path.{refl}
use Rattle.aes_field.specs.Tables.{inv_sbox}
use Rattle.aes_bytes.proofs.inv_sbox_table.Goals as goal

pub returns : goal.returns
unfolding inv_sbox
returns c = refl
