-- `inv_mix_columns` fills its result column by column with InvMixColumns' bytes.
-- Assumes nothing.
use Rattle.std.proofs.Common.{rules}
use mathlib.Core.Path.{refl, sym, subst}
use mathlib.Core.List.{List}
use Prim.Native.Nat.{ℕ, ◌+◌, ◌*◌}
use native.Mathlib.Omega.{arith}
use Rattle.octets.proofs.Filling.{Filled, filled_none, filled-all}
use Rattle.aes_rules.specs.Cipher.{columns}
use Rattle.aes_rules.specs.InvCipher.{inv_mix_row, inv_mix_columns}
use Rattle.aes_rules.proofs.Elements.{column-filled}
use Rattle.aes_decrypt.proofs.inv_mix_columns.Goals as goal

pub loop-c-init : goal.loop-c-init
loop-c-init c = filled_none (search rules) refl

pub loop-c-preserved : goal.loop-c-preserved
loop-c-preserved c = let l = c.loop-c in
    subst (λ (r : List ℕ). Filled 16 (columns inv_mix_row c.args.s) r (4 * (l.c + 1))) (sym c.put.ensures)
    (column-filled inv_mix_row c.args.s l.r c.inv_mix_column.result (4 * l.c) (4 * (l.c + 1)) l.invariant (omega arith) (omega arith) (omega arith) c.inv_mix_column.ensures)

pub returns : goal.returns
unfolding inv_mix_columns
returns c = filled-all c.loop-c.invariant (omega arith)
