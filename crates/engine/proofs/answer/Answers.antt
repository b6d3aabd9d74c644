-- Unsound, no room, or the answer.
-- Assumes nothing.
use Rattle.card.proofs.SoundFacts.{path-lengths}
use mathlib.Core.Path.{sym, ◌∙◌}
use Rattle.engine_responses.proofs.Writing.{answer-as}
use Rattle.engine_sound.proofs.Answers.{answer-nothing}
use Rattle.engine.proofs.Answers.{answer-room, answer-sound, answer-unsound}
use Rattle.engine.proofs.answer.Goals as goal

pub returns-then-buf-lt-ANSWER_ROOM_BYTES : goal.returns-then-buf-lt-ANSWER_ROOM_BYTES
returns-then-buf-lt-ANSWER_ROOM_BYTES c = let g = c.args in answer-as _ _ _ _ _ (answer-room g.card g.cmd.now g.supply.now _ (sym c.sound.ensures ∙ c.if-sound.true) c.if-buf-lt-ANSWER_ROOM_BYTES.true) (answer-nothing g.card 2 _ _ c.refused.ensures)

pub answer_sound-requires : goal.answer_sound-requires
answer_sound-requires c = (path-lengths _ (sym c.sound.ensures ∙ c.if-sound.true), c.if-buf-lt-ANSWER_ROOM_BYTES.false)

pub returns-then-sound : goal.returns-then-sound
returns-then-sound c = let g = c.args in answer-as _ _ _ _ _ (answer-sound g.card g.cmd.now g.supply.now _ (sym c.sound.ensures ∙ c.if-sound.true) c.if-buf-lt-ANSWER_ROOM_BYTES.false) c.answer_sound.ensures

pub returns : goal.returns
returns c = let g = c.args in answer-as _ _ _ _ _ (answer-unsound g.card g.cmd.now g.supply.now _ (sym c.sound.ensures ∙ c.if-sound.false)) (answer-nothing g.card 1 _ _ c.refused-2.ensures)
