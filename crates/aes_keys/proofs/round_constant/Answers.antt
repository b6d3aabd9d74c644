-- A shifted 1 is the power of x that Rcon holds, computed for each round constant that AES-256 uses.
-- Assumes nothing.
use Rattle.std.proofs.Common.{rules}
use mathlib.Core.Path.{refl}
use Prim.Native.Nat.{◌-◌, ◌^◌, ◌%◌, ◌*◌}
use Rattle.aes_field.specs.Field.{x_times}
use Rattle.octets.proofs.Table.{agree-below}
use Rattle.octets.proofs.Lists.{◌&◌}
use Rattle.aes_rules.specs.Schedule.{x_power, rcon}
use Rattle.aes_keys.proofs.round_constant.Goals as goal

pub returns : goal.returns
unfolding rcon x_times
returns c = agree-below (λ j. 1 * 2 ^ (j - 1) % 256) (λ j. x_power (j - 1)) 8 tt c.args.j (search rules) & refl
