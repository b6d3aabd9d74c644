-- The bytes in use of each path are compared.
-- Assumes nothing.
use mathlib.Core.Path.{ap₂, ◌∙◌}
use Prim.Native.Nat.{ℕ}
use lib.ListN.{take}
use Rattle.octets.specs.Bytes.{same_bytes}
use Rattle.command_sign.proofs.same_path.Goals as goal

pub returns : goal.returns
returns c =
    let a = c.args in
    c.same.ensures
    ∙ ap₂ (λ (n m : ℕ). same_bytes (take n a.a.now.bytes) (take m a.b.now.bytes)) c.wide-a_end.ensures c.wide-b_end.ensures
