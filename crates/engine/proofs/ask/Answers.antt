-- Unsound, no room, or the question.
-- Assumes nothing.
use Rattle.card.proofs.SoundFacts.{path-lengths}
use mathlib.Core.List.{[]}
use mathlib.Core.Path.{sym, ◌∙◌}
use Rattle.engine_sound.proofs.Answers.{ask-as, ask-nothing}
use Rattle.engine.proofs.Answers.{ask-room, ask-sound, ask-unsound}
use Rattle.engine.proofs.ask.Goals as goal

pub returns-then-buf-lt-ASK_ROOM_BYTES : goal.returns-then-buf-lt-ASK_ROOM_BYTES
returns-then-buf-lt-ASK_ROOM_BYTES c = let g = c.args in ask-as _ _ _ _ _ (ask-room g.card g.cmd.now [] _ (sym c.sound.ensures ∙ c.if-sound.true) c.if-buf-lt-ASK_ROOM_BYTES.true) (ask-nothing 2 _ _ c.ask_refused.ensures)

pub ask_sound-requires : goal.ask_sound-requires
ask_sound-requires c = (path-lengths _ (sym c.sound.ensures ∙ c.if-sound.true), c.if-buf-lt-ASK_ROOM_BYTES.false)

pub returns-then-sound : goal.returns-then-sound
returns-then-sound c = let g = c.args in ask-as _ _ _ _ _ (ask-sound g.card g.cmd.now [] _ (sym c.sound.ensures ∙ c.if-sound.true) c.if-buf-lt-ASK_ROOM_BYTES.false) c.ask_sound.ensures

pub returns : goal.returns
returns c = let g = c.args in ask-as _ _ _ _ _ (ask-unsound g.card g.cmd.now [] _ (sym c.sound.ensures ∙ c.if-sound.false)) (ask-nothing 1 _ _ c.ask_refused-2.ensures)
