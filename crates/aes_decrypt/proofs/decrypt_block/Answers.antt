-- After round r the rounds r - 1 to 1 are left; the step after the loop completes the inverse cipher.
-- Assumes nothing.
use mathlib.Core.Path.{ap, ap₂, ◌∙◌}
use native.Mathlib.Omega.{arith}
use Rattle.octets.specs.Bytes.{xor_bytes}
use Rattle.aes_rules.specs.InvCipher.{inv_sub_bytes, inv_mix_columns}
use Rattle.aes_decrypt.proofs.InvTurns.{turn, last_turn}
use Rattle.aes_decrypt.proofs.decrypt_block.Goals as goal

pub loop-r-preserved : goal.loop-r-preserved
loop-r-preserved c = (
  turn c.args.w.now c.loop-r.t c.xor_blocks-t.result c.inv_mix_columns-t.result c.loop-r.r (omega arith) c.loop-r.invariant.0
      (c.inv_mix_columns-t.ensures
      ∙ ap inv_mix_columns
      (c.xor_blocks.ensures ∙ ap₂ xor_bytes (c.inv_sub_bytes-u.ensures ∙ ap inv_sub_bytes c.inv_shift_rows.ensures) c.round_key-in-loop-r.ensures)),
  omega arith,
)

pub returns : goal.returns
returns c =
    last_turn c.args.w.now c.args.s c.loop-r.t c.xor_blocks-t.result c.xor_blocks-2.result c.loop-r.r (omega arith) c.loop-r.invariant.0
    (c.xor_blocks-t.ensures ∙ ap (xor_bytes c.args.s) c.round_key.ensures)
    (c.xor_blocks-2.ensures ∙ ap₂ xor_bytes (c.inv_sub_bytes.ensures ∙ ap inv_sub_bytes c.inv_shift_rows-2.ensures) c.round_key-2.ensures)
