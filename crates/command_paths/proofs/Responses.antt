-- DERIVE and SET PIN-LESS PATH give no response data.
-- Assumes nothing.
use mathlib.Core.Path.{◌≡◌, refl}
use mathlib.Core.Bool.{Bool, true, false, cond}
use mathlib.Core.List.{List, []}
use Prim.Native.Nat.{ℕ}
use Rattle.card.specs.declared.Card.{Card}
use Rattle.card.specs.State.{path_of, with_keys}
use Rattle.rules.specs.Words.{succeeds, fails, reference_invalid}
use Rattle.rules.specs.Supplies.{says_yes}
use Rattle.rules.specs.Commands.{with_current, derive_reply, pinless_reply}

pub derive-response : (c : Card) (d s : List ℕ) → (derive_reply c d s).response ≡ []
unfolding derive_reply
derive-response c d s = by_flag (with_keys c (with_current c.keys (path_of d))) (says_yes s)
  where
    by_flag : (x : Card) (b : Bool) → (cond b (succeeds x []) (fails c reference_invalid)).response ≡ []
    by_flag x true = refl
    by_flag x false = refl

pub pinless-response : (c : Card) (d : List ℕ) → (pinless_reply c d).response ≡ []
unfolding pinless_reply
pinless-response c d = refl
