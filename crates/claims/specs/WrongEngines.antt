-- The four wrong engines that demand 3 alone would let pass (RULES 11.5): the rules shut out each of them.
-- Every length and room is in bytes.
use Rattle.std.specs.Prelude.{ℕ, ◌≤◌, ◌≡◌, true, List, [], ◌∷◌}
use Rattle.card.specs.declared.Card.{Card}
use Rattle.card.specs.Sound.{is_sound}
use Rattle.rules.specs.Engine.{answer_out}

-- a call on a sound card that leaves another card
pub record Changing : Type 0 where
  pub card : Card
  pub bytes : List ℕ
  pub supply : List ℕ
  pub room : ℕ
  pub sound : is_sound card ≡ true
  pub taken : (answer_out card bytes supply room).refusal ≡ 0
  pub changed : (answer_out card bytes supply room).card ≡ card → ⊥

-- two calls, the second on the card that the first leaves: its answer is neither the first answer nor what it was given, and it is not what
-- the same call gives on the card at the start
pub record SecondAnswer : Type 0 where
  pub card : Card
  pub first : List ℕ
  pub supply : List ℕ
  pub second : List ℕ
  pub supply' : List ℕ
  pub room : ℕ
  pub sound : is_sound card ≡ true
  pub taken : (answer_out card first supply room).refusal ≡ 0
  pub taken' : (answer_out (answer_out card first supply room).card second supply' room).refusal ≡ 0
  pub nofirst : (answer_out (answer_out card first supply room).card second supply' room).bytes ≡ (answer_out card first supply room).bytes → ⊥
  pub noecho : (answer_out (answer_out card first supply room).card second supply' room).bytes ≡ second → ⊥
  pub nosupply : (answer_out (answer_out card first supply room).card second supply' room).bytes ≡ supply' → ⊥
  pub onward : (answer_out (answer_out card first supply room).card second supply' room).bytes ≡ (answer_out card second supply' room).bytes → ⊥

pub record WrongEngines : Type 0 where
  -- one that refuses everything: on every sound card a call is taken
  pub refuses : (c : Card) (supply : List ℕ) (room : ℕ) → is_sound c ≡ true → 258 ≤ room → (answer_out c [] supply room).refusal ≡ 0
  -- one that says 9000 to all: on every sound card some status word is another
  pub agrees : (c : Card) (supply : List ℕ) (room : ℕ) → is_sound c ≡ true → 258 ≤ room
      → (answer_out c [] supply room).bytes ≡ 0x67 ∷ 0x00 ∷ []
  -- one that leaves the state as found
  pub stays : Changing
  -- one that handles the first command and echoes later ones
  pub echoes : SecondAnswer
