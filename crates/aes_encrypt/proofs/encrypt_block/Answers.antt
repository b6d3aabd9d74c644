-- Ahead of round r the state is that after the rounds 1 to r - 1; the last round completes the cipher.
-- Assumes nothing.
use mathlib.Core.Path.{ap, ap₂, ◌∙◌}
use native.Mathlib.Omega.{arith}
use Rattle.octets.specs.Bytes.{xor_bytes}
use Rattle.aes_rules.specs.Cipher.{shift_rows, mix_columns}
use Rattle.aes_encrypt.proofs.Turns.{turn, last_turn}
use Rattle.aes_encrypt.proofs.encrypt_block.Goals as goal

pub loop-r-preserved : goal.loop-r-preserved
loop-r-preserved c =
    turn c.args.w.now c.loop-r.t c.xor_blocks-t.result c.xor_blocks-t-in-loop-r.result c.loop-r.r (omega arith) c.loop-r.invariant
    (c.xor_blocks-t-in-loop-r.ensures
    ∙ ap₂ xor_bytes (c.mix_columns.ensures ∙ ap mix_columns (c.shift_rows.ensures ∙ ap shift_rows c.sub_bytes.ensures)) c.round_key-in-loop-r.ensures)

pub returns : goal.returns
returns c =
    last_turn c.args.w.now c.args.s c.loop-r.t c.xor_blocks-t.result c.xor_blocks.result c.loop-r.r (omega arith) c.loop-r.invariant
    (c.xor_blocks-t.ensures ∙ ap (xor_bytes c.args.s) c.round_key.ensures)
    (c.xor_blocks.ensures ∙ ap₂ xor_bytes (c.shift_rows-2.ensures ∙ ap shift_rows c.sub_bytes-2.ensures) c.round_key-2.ensures)
