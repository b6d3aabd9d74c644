-- ASK and ANSWER by soundness and room.
-- Assumes nothing.
use mathlib.Core.Path.{◌≡◌}
use mathlib.Core.Bool.{true, false}
use mathlib.Core.List.{List}
use Prim.Native.Nat.{ℕ, ◌≤◌, ◌<◌}
use borrow.Author.Tests.{lt-ltb, le-ltb}
use Rattle.card.specs.declared.Card.{Card}
use Rattle.card.specs.Sound.{is_sound}
use Rattle.refusals.specs.Refusals.{unsound, no_room}
use Rattle.rules.specs.Steps.{decide}
use Rattle.rules.specs.Engine.{ask_out, ask_refused, asked, answer_out, answer_refused, with_supply}

module _ (c : Card) (cmd s : List ℕ) (room : ℕ) where
  pub answer-unsound : is_sound c ≡ false → answer_out c cmd s room ≡ answer_refused c unsound
  unfolding answer_out
  answer-unsound e = rw (e)

  pub answer-room : is_sound c ≡ true → room < 258 → answer_out c cmd s room ≡ answer_refused c no_room
  unfolding answer_out
  answer-room e h = rw (e, lt-ltb room 258 h)

  pub answer-sound : is_sound c ≡ true → 258 ≤ room → answer_out c cmd s room ≡ with_supply c (decide c cmd) s
  unfolding answer_out
  answer-sound e h = rw (e, le-ltb room 258 h)

  pub ask-unsound : is_sound c ≡ false → ask_out c cmd room ≡ ask_refused unsound
  unfolding ask_out
  ask-unsound e = rw (e)

  pub ask-room : is_sound c ≡ true → room < 255 → ask_out c cmd room ≡ ask_refused no_room
  unfolding ask_out
  ask-room e h = rw (e, lt-ltb room 255 h)

  pub ask-sound : is_sound c ≡ true → 255 ≤ room → ask_out c cmd room ≡ asked (decide c cmd)
  unfolding ask_out
  ask-sound e h = rw (e, le-ltb room 255 h)
