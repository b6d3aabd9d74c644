-- The chain under the schedule of the key is CBC decryption with AES-256 under the key.
-- Assumes nothing.
use mathlib.Core.Path.{ap, ◌∙◌}
use mathlib.Core.List.{List}
use Prim.Native.Nat.{ℕ}
use Rattle.aes_rules.specs.InvCipher.{inv_cipher}
use Rattle.aes_rules.specs.Aes.{inv_aes256}
use Rattle.aes_cbc.specs.Mode.{cbc_decrypt}
use Rattle.aes_cbc.proofs.cbc_decrypt.Goals as goal

pub returns : goal.returns
unfolding inv_aes256
returns c = let g = c.args in
    c.decrypt_blocks.ensures ∙ ap (λ (w : List ℕ). cbc_decrypt (inv_cipher w) g.iv g.buf.now) c.key_expansion-w.ensures
