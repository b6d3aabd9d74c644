-- VERIFY: by cases on how the comparison came out.
-- Assumes nothing.
use mathlib.Core.Path.{sym, ◌∙◌}
use Rattle.rules.specs.Commands.{verify_reply}
use Rattle.command_verify.proofs.CheckFacts.{verify-try}
use Rattle.command_verify.proofs.verify.Goals as goal

pub returns-then-same : goal.returns-then-same
unfolding verify_reply
returns-then-same c =
    rw (
      sym c.same.ensures ∙ c.if-same.true,
      c.done.ensures,
      c.with_pins.ensures,
      c.pin_right-verified.ensures,
    )

pub pin_wrong-wrong-requires : goal.pin_wrong-wrong-requires
pin_wrong-wrong-requires c = verify-try _ c.requires

pub returns : goal.returns
unfolding verify_reply
returns c =
    rw (
      sym c.same.ensures ∙ c.if-same.false,
      c.failed.ensures,
      c.with_pins-2.ensures,
      c.tries_left-status.ensures,
      c.pin_wrong-wrong.ensures,
    )
