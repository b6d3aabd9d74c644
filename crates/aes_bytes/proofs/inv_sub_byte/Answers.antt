-- An entry of the inverse S-box's table is the rule's value, by the law over the whole table.
-- Assumes nothing.
use Rattle.std.proofs.Common.{rules}
use mathlib.Core.Path.{ap, ◌∙◌}
use mathlib.Core.List.{List}
use Prim.Native.Nat.{ℕ}
use lib.ListN.{get_or}
use Rattle.aes_field.proofs.Sbox.{inv-sbox-rule}
use Rattle.aes_bytes.proofs.inv_sub_byte.Goals as goal

pub returns : goal.returns
returns c = ap (λ (l : List ℕ). get_or l c.args.b 0) c.requires ∙ inv-sbox-rule c.args.b (search rules)
