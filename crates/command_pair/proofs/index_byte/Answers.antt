-- The slot found is there, so its index fits a byte.
-- Assumes nothing.
use Rattle.std.proofs.Common.{rules}
use mathlib.Core.Path.{◌≡◌, refl}
use native.Mathlib.Omega.{arith}
use lib.ListN.{length}
use Rattle.card.specs.State.{slot_count}
use Rattle.command_pair.proofs.ReplyFacts.{found_within}
use Rattle.command_pair.proofs.index_byte.Goals as goal

pub overflow_cast-result : goal.overflow_cast-result
overflow_cast-result c = let l : length c.args.slots ≡ slot_count = search rules in
    omega (arith, found_within c.args.slots c.args.i c.requires)

pub returns : goal.returns
returns c = let l : length c.args.slots ≡ slot_count = search rules in
    (refl, omega (arith, found_within c.args.slots c.args.i c.requires))
