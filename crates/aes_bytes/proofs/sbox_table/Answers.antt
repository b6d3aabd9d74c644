-- The constant table is the S-box of the definitions, entry for entry.
-- Assumes nothing.
use mathlib.Core.Path.{refl}
use Rattle.aes_field.specs.Tables.{sbox}
use Rattle.aes_bytes.proofs.sbox_table.Goals as goal

pub returns : goal.returns
unfolding sbox
returns c = refl
