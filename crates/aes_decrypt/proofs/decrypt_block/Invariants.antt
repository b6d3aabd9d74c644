-- After round r the rounds r - 1 to 1 are left; the step after the loop completes the inverse cipher.
-- Assumes nothing.
use Rattle.aes_decrypt.proofs.decrypt_block.Given as goal
use mathlib.Core.Path.{◌≡◌}
use Prim.Native.Nat.{◌-◌, ◌≤◌}
use Rattle.aes_rules.specs.InvCipher.{inv_rounds}

abbrev pub invariant-loop-r : goal.invariant-loop-r
invariant-loop-r l = (inv_rounds l.w (l.r - 1) l.t ≡ inv_rounds l.w 13 l.initial.t) × (1 ≤ l.r)
