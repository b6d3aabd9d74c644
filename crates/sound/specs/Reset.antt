-- What RESET answers (RULES 3.4): the refusal's number or 0, and the next card.
use Rattle.std.specs.Prelude.{ℕ, cond}
use Rattle.refusals.specs.Refusals.{no_refusal, unsound}
use Rattle.card.specs.declared.Card.{Card}
use Rattle.card.specs.State.{reset_of}
use Rattle.card.specs.Sound.{is_sound}
use Rattle.sound.specs.declared.Answer.{Answer}

-- refused (RULES 3.2): the number and the card as given
abbrev pub refused : ℕ → Card → Answer
refused n c = record { refusal = n; card = c }

-- not refused: the next card
abbrev pub done : Card → Answer
done c = record { refusal = no_refusal; card = c }

-- RESET (RULES 3.4)
unfoldable pub reset_answer : Card → Answer
reset_answer c = cond (is_sound c) (done (reset_of c)) (refused unsound c)
