-- `inv_mix_columns` fills its result column by column with InvMixColumns' bytes.
-- Assumes nothing.
use Rattle.aes_decrypt.proofs.inv_mix_columns.Given as goal
use Prim.Native.Nat.{◌*◌}
use Rattle.octets.proofs.Filling.{Filled}
use Rattle.aes_rules.specs.Cipher.{columns}
use Rattle.aes_rules.specs.InvCipher.{inv_mix_row}

abbrev pub invariant-loop-c : goal.invariant-loop-c
invariant-loop-c l = Filled 16 (columns inv_mix_row l.s) l.r (4 * l.c)
