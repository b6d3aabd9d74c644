-- After each turn the bytes done, and the chain over the rest, are the chain over the whole.
-- Assumes nothing.
use Rattle.std.proofs.Common.{rules}
use mathlib.Core.Path.{refl, sym, ◌∙◌}
use Prim.Native.Nat.{◌-◌, ◌+◌, ◌*◌, ◌/◌}
use native.Mathlib.Nat.{sub-zero}
use native.Mathlib.Omega.{arith}
use lib.ListN.{length}
use Rattle.aes_rules.specs.InvCipher.{inv_cipher}
use Rattle.aes_cbc.specs.Mode.{decrypt_block, itself, cbc_decrypt}
use Rattle.aes_cbc.proofs.Chains.{turn, turned}
use Rattle.aes_cbc.proofs.decrypt_blocks.Goals as goal

pub loop-n-init : goal.loop-n-init
loop-n-init c = rw sub-zero refl

pub loop-n-preserved : goal.loop-n-preserved
loop-n-preserved c =
    let l = c.loop-n in
    let p = c.decrypt_part-c in
    turn (decrypt_block (inv_cipher c.args.w.now)) itself l.prev p.result l.buf p.new.part (l.n * 16) ((l.n + 1) * 16) (l.n * 16 + 16 - l.n * 16) (length c.args.buf.now)
    (omega arith) (omega arith) (omega arith) (omega arith) (search rules) p.ensures.part_after p.ensures.value
    ∙ l.invariant

pub returns : goal.returns
unfolding cbc_decrypt
returns c =
    let l = c.loop-n in
    sym (turned (decrypt_block (inv_cipher c.args.w.now)) itself l.prev l.buf (l.n * 16) ((length c.args.buf.now - l.n * 16) / 16) (omega arith) (omega arith)) ∙ l.invariant
