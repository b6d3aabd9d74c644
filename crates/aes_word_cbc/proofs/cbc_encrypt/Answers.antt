-- The chain under the schedule of the key is CBC encryption with AES-256 under the key.
-- Assumes nothing.
use mathlib.Core.Path.{ap, ◌∙◌}
use mathlib.Core.List.{List}
use Prim.Native.Nat.{ℕ}
use Rattle.aes_rules.specs.Cipher.{cipher}
use Rattle.aes_rules.specs.Aes.{aes256}
use Rattle.aes_cbc.specs.Mode.{cbc_encrypt}
use Rattle.aes_word_cbc.proofs.cbc_encrypt.Goals as goal

pub returns : goal.returns
unfolding aes256
returns c = let g = c.args in
    c.encrypt_blocks.ensures ∙ ap (λ (w : List ℕ). cbc_encrypt (cipher w) g.iv g.buf.now) c.key_schedule-w.ensures
