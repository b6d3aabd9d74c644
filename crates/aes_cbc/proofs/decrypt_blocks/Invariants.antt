-- After each turn the bytes done, and the chain over the rest, are the chain over the whole.
-- Assumes nothing.
use Rattle.aes_cbc.proofs.decrypt_blocks.Given as goal
use mathlib.Core.Path.{◌≡◌}
use mathlib.Core.List.{◌++◌}
use Prim.Native.Nat.{◌-◌, ◌*◌, ◌/◌}
use lib.ListN.{length, take, drop}
use Rattle.aes_rules.specs.InvCipher.{inv_cipher}
use Rattle.aes_cbc.specs.Mode.{chain, decrypt_block, itself}

abbrev pub invariant-loop-n : goal.invariant-loop-n
invariant-loop-n l =
    take (l.n * 16) l.buf ++ chain (decrypt_block (inv_cipher l.w)) itself ((length l.initial.buf - l.n * 16) / 16) l.prev (drop (l.n * 16) l.buf)
    ≡ chain (decrypt_block (inv_cipher l.w)) itself (length l.initial.buf / 16) l.initial.prev l.initial.buf
