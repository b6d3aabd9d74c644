-- The cipher under the words of the key's schedule, whose bytes are the schedule.
-- Assumes nothing.
use mathlib.Core.Path.{ap, ◌∙◌}
use mathlib.Core.List.{List}
use Prim.Native.Nat.{ℕ}
use Rattle.aes_rules.specs.Cipher.{cipher}
use Rattle.aes_rules.specs.Aes.{aes256}
use Rattle.aes_engines.proofs.encrypt_by_tables.Goals as goal

pub returns : goal.returns
unfolding aes256
returns c = c.encrypt_block.ensures ∙ ap (λ (w : List ℕ). cipher w c.args.s) c.key_schedule-w.ensures
