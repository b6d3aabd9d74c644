-- A slot is its flag and then its key, written one after the other.
-- Assumes nothing.
use Rattle.std.proofs.Common.{rules}
use mathlib.Core.Path.{refl, ap, ◌∙◌}
use mathlib.Core.List.{[], ◌∷◌}
use native.Mathlib.Omega.{arith}
use Rattle.octets.specs.Bytes.{overwrite}
use Rattle.octets.proofs.Lists.{overwrite-next}
use Prim.Native.Nat.{◌+◌}
use Rattle.record_fields.proofs.put_slot.Goals as goal

pub put-requires-2 : goal.put-requires-2
put-requires-2 c = search rules

pub returns : goal.returns
returns c = let s = c.args.slot in let a = c.args.at in let b = c.args.buf.now in (search rules, c.put-2.ensures ∙ ap (λ (m : _). overwrite m (a + 1) s.key) c.put.ensures ∙ overwrite-next b a (a + 1) (s.filled ∷ []) s.key refl (omega arith))
