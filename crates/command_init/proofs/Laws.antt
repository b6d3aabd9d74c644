-- A law of INIT: it answers no data.
-- Assumes nothing.
use mathlib.Core.Path.{◌≡◌, refl, ap, ◌∙◌}
use mathlib.Core.Bool.{Bool, true, false, cond}
use mathlib.Core.List.{List, []}
use mathlib.Core.Option.{Option, none, some}
use Prim.Native.Nat.{ℕ}
use Rattle.card.specs.declared.Card.{Card}
use Rattle.rules.specs.Words.{wrong_data, Reply, succeeds, fails}
use Rattle.rules.specs.Commands.{is_content, initialised_with, init_with, init_reply}
use Rattle.command_init.specs.Content.{brought_content}
use Rattle.command_init.proofs.InitFacts.{init-is}

-- ---- init_reply
by-test : (c c' : Card) (b : Bool) → (cond b (succeeds c' []) (fails c wrong_data)).response ≡ []
by-test c c' true = refl
by-test c c' false = refl

with-empty : (c : Card) (o : Option (List ℕ)) → (init_with c o).response ≡ []
unfolding init_with
with-empty c none = refl
with-empty c (some x) = by-test c (initialised_with c x) (is_content x)

-- INIT's response is empty, whatever the card, the data and the supply
pub init-empty : (c : Card) (d s : List ℕ) → (init_reply c d s).response ≡ []
init-empty c d s = ap (λ (r : Reply). r.response) (init-is c d s) ∙ with-empty c (brought_content d s)
