-- The head's block, and the last block of the chain that starts from it, are the MAC of both joined.
-- Assumes nothing.
use Rattle.std.proofs.Common.{rules}
use mathlib.Core.Path.{ap, ◌∙◌}
use mathlib.Core.List.{List}
use Prim.Native.Nat.{ℕ}
use Rattle.aes_rules.specs.Cipher.{cipher}
use Rattle.aes_rules.specs.Aes.{aes256}
use Rattle.aes_cbc.specs.Mode.{cbc_encrypt, last_block}
use Rattle.aes_cbc.proofs.Mac.{mac-headed}
use Rattle.aes_word_mac.proofs.cbc_mac.Goals as goal

pub returns : goal.returns
unfolding aes256
returns c = let g = c.args in
    let first : List ℕ = c.encrypt_block-first.result in
    let e = c.key_schedule-w.ensures in
    mac-headed (aes256 g.key.now) g.head first g.xs.now c.last_block.result c.well_formed.1.0.1.0.1 (search rules)
    (c.encrypt_block-first.ensures ∙ ap (λ (w : List ℕ). cipher w g.head) e)
    (c.last_block.ensures ∙ ap (λ (w : List ℕ). last_block first (cbc_encrypt (cipher w) first g.xs.now)) e)
