-- The head block of a command, written out.
-- Assumes nothing.
use Rattle.std.proofs.Common.{rules}
use mathlib.Core.Path.{sym, ap}
use mathlib.Core.List.{List, ◌∷◌, ◌++◌}
use Prim.Native.Nat.{ℕ, ◌+◌}
use lib.ListN.{replicate}
use Rattle.octets.proofs.Lists.{tabulated}
use Rattle.channel_heads.proofs.command_head.Goals as goal

pub returns : goal.returns
returns c = sym (ap (λ (h : List ℕ). h ++ ((16 + c.args.ciphertext_bytes) ∷ replicate 11 0)) (tabulated 4 c.args.header (search rules)))
