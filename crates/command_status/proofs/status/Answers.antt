-- GET STATUS: by cases on what is asked for.
-- Assumes nothing.
use mathlib.Core.Path.{refl}
use Rattle.rules.specs.Commands.{status_reply}
use Rattle.command_parts.proofs.ReplyFacts.{wrote-replies}
use Rattle.command_status.proofs.status.Goals as goal

pub returns-in-Application : goal.returns-in-Application
unfolding status_reply
returns-in-Application c =
    rw c.in-Application.is (wrote-replies _ _ c.replied.ensures refl c.put_application-count.ensures)

pub returns-in-Path : goal.returns-in-Path
unfolding status_reply
returns-in-Path c =
    rw c.in-Path.is (wrote-replies _ _ c.replied-in-Path.ensures refl c.put_path-count.ensures)
