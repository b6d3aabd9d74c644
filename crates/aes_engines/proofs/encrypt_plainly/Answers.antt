-- The cipher under the key's schedule.
-- Assumes nothing.
use mathlib.Core.Path.{ap, ◌∙◌}
use mathlib.Core.List.{List}
use Prim.Native.Nat.{ℕ}
use Rattle.aes_rules.specs.Cipher.{cipher}
use Rattle.aes_rules.specs.Aes.{aes256}
use Rattle.aes_engines.proofs.encrypt_plainly.Goals as goal

pub returns : goal.returns
unfolding aes256
returns c = c.encrypt_block.ensures ∙ ap (λ (w : List ℕ). cipher w c.args.s) c.key_expansion-w.ensures
