-- READ's own refusal.
-- Assumes nothing.
use Rattle.sound.specs.declared.Answer.{Answer}
use mathlib.Core.Path.{ap}
use Rattle.record_tap.proofs.tap_refusal.Goals as goal

pub returns : goal.returns
returns c = ap (λ (a : Answer). a.refusal) c.read-answer.ensures
