-- After each turn the last block of the chain over the rest is that of the chain over the whole.
-- Assumes nothing.
use Rattle.std.proofs.Common.{rules}
use mathlib.Core.Path.{refl, sym, ap, ◌∙◌}
use mathlib.Core.List.{List}
use Prim.Native.Nat.{ℕ, ◌-◌, ◌*◌, ◌/◌}
use native.Mathlib.Nat.{sub-zero}
use native.Mathlib.Omega.{arith}
use lib.ListN.{length}
use Rattle.aes_rules.specs.Cipher.{cipher}
use Rattle.aes_cbc.specs.Mode.{cbc_encrypt}
use Rattle.aes_cbc.proofs.Mac.{mac-turn, mac-turned}
use Rattle.aes_cbc.proofs.last_block.Goals as goal

pub loop-plain-init : goal.loop-plain-init
loop-plain-init c = (rw sub-zero refl, search rules)

pub loop-plain-preserved : goal.loop-plain-preserved
loop-plain-preserved c =
    let l = c.loop-plain in
    let w : List ℕ = c.args.w.now in (
      mac-turn (cipher w) l.prev c.encrypt_block-c.result c.args.xs.now c.as_chunks.result.0.now l.plain-index (length c.args.xs.now / 16)
          (omega (arith, c.as_chunks.ensures.front_len)) l.invariant.1 (search rules) c.as_chunks.ensures.front
          (c.encrypt_block-c.ensures ∙ ap (cipher w) c.xor_blocks.ensures)
          ∙ l.invariant.0,
      search rules,
    )

pub returns : goal.returns
unfolding cbc_encrypt
returns c =
    let l = c.loop-plain in
    let xs : List ℕ = c.args.xs.now in
    sym (mac-turned (cipher c.args.w.now) l.prev xs (l.plain-index * 16) (length xs / 16 - l.plain-index) l.invariant.1 (omega (arith, c.as_chunks.ensures.front_len))) ∙ l.invariant.0
