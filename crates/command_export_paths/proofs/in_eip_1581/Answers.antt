-- The three components are those of the node; a path with fewer is not there.
-- Assumes nothing.
use mathlib.Core.Path.{sym, ap₂, ◌∙◌}
use mathlib.Core.Bool.{◌&&◌}
use native.Mathlib.Omega.{arith}
use Rattle.command_export_paths.proofs.PathFacts.{eip-short, eip-long}
use Rattle.command_export_paths.proofs.in_eip_1581.Goals as goal

pub returns-then-path-lt-EIP_1581_BYTES : goal.returns-then-path-lt-EIP_1581_BYTES
returns-then-path-lt-EIP_1581_BYTES c = sym (eip-short c.args.path.now (omega (arith, c.if-path-lt-EIP_1581_BYTES.true)))

pub returns : goal.returns
returns c = ap₂ ◌&&◌ c.is_hardened-purpose.ensures (ap₂ ◌&&◌ c.is_hardened-coin.ensures c.is_hardened-usage.ensures)
    ∙ sym (eip-long c.args.path.now (omega (arith, c.if-path-lt-EIP_1581_BYTES.false)))
