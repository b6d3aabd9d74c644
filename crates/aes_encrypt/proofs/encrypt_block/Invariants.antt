-- Ahead of round r the state is that after the rounds 1 to r - 1; the last round completes the cipher.
-- Assumes nothing.
use Rattle.aes_encrypt.proofs.encrypt_block.Given as goal
use mathlib.Core.Path.{◌≡◌}
use Prim.Native.Nat.{◌-◌}
use Rattle.aes_rules.specs.Cipher.{rounds}

abbrev pub invariant-loop-r : goal.invariant-loop-r
invariant-loop-r l = l.t ≡ rounds l.w (l.r - 1) l.initial.t
