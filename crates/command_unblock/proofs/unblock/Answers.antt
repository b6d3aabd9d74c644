-- UNBLOCK: by cases on how the comparison came out; the check of the data gives their length.
-- Assumes nothing.
use mathlib.Core.Path.{sym, ◌∙◌}
use native.Mathlib.Omega.{arith}
use lib.Seq.{length-take-le}
use Rattle.rules.specs.Commands.{unblock_reply}
use Rattle.command_parts.proofs.SupplyFacts.{within, part-rest}
use Rattle.command_unblock.proofs.CheckFacts.{unblock-try, unblock-long}
use Rattle.command_unblock.proofs.unblock.Goals as goal

pub slice_bounds-same-end : goal.slice_bounds-same-end
slice_bounds-same-end c =
    sym (length-take-le 12 c.args.«data».now (omega (arith, unblock-long _ _ c.requires)))

pub part-requires : goal.part-requires
part-requires c =
    (omega arith, within (unblock-long _ _ c.requires) (omega arith))

pub returns-then-same : goal.returns-then-same
unfolding unblock_reply
returns-then-same c =
    rw (
      sym c.same.ensures ∙ c.if-same.true,
      c.done.ensures,
      c.with_pins.ensures,
      c.puk_right-unblocked.ensures,
      c.part.ensures,
      part-rest 12 6 c.args.«data».now (unblock-long _ _ c.requires),
    )

pub puk_wrong-wrong-requires : goal.puk_wrong-wrong-requires
puk_wrong-wrong-requires c =
    unblock-try _ _ c.requires

pub returns : goal.returns
unfolding unblock_reply
returns c =
    rw (
      sym c.same.ensures ∙ c.if-same.false,
      c.failed.ensures,
      c.with_pins-2.ensures,
      c.tries_left-status.ensures,
      c.puk_wrong-wrong.ensures,
    )
