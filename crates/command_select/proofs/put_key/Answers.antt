-- The public key has 65 bytes, so there is room for its field.
-- Assumes nothing.
use Rattle.std.proofs.Common.{rules}
use mathlib.Core.Path.{◌≡◌}
use Prim.Native.Nat.{◌≤◌}
use native.Mathlib.Omega.{arith}
use lib.ListN.{length}
use Rattle.command_select.proofs.put_key.Goals as goal

pub put_pre_initialised-requires : goal.put_pre_initialised-requires
put_pre_initialised-requires c = let l : length c.args.identity.public_key ≡ 65 = search rules in
    let k : length c.args.identity.public_key ≤ 65 = omega arith in
    (k, omega (arith, c.requires))
