-- The tap record is one field, with as many bytes as are in use.
-- Assumes nothing.
use Rattle.std.proofs.Common.{rules}
use mathlib.Core.Path.{◌≡◌}
use native.Mathlib.Omega.{arith}
use lib.ListN.{length}
use Rattle.card.specs.Sizes.{tap_most_bytes}
use Rattle.record_fields.proofs.put_tap.Goals as goal

pub put_used-requires : goal.put_used-requires
put_used-requires c = let l : length c.args.t.bytes ≡ tap_most_bytes = search rules in (omega arith, omega arith)

pub returns : goal.returns
returns c = let l : length c.args.t.bytes ≡ tap_most_bytes = search rules in (c.put_used.ensures.0, omega arith)
