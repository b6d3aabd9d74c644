-- How many bytes of response data LOAD and REMOVE give: at most 32 and none, so that each reply fits the buffer and can be sealed.
-- Assumes nothing.
use mathlib.Core.Path.{◌≡◌, refl}
use mathlib.Core.Bool.{Bool, true, false, cond}
use mathlib.Core.List.{List, []}
use Prim.Native.Nat.{ℕ, ◌≤◌}
use native.Mathlib.Omega.{arith}
use lib.ListN.{length}
use Rattle.sha_rules.proofs.Blocks.{length-sha256}
use Rattle.card.specs.declared.Card.{Card}
use Rattle.card.specs.State.{with_keys}
use Rattle.rules.specs.declared.KeyForm.{KeyForm}
use Rattle.rules.specs.Words.{succeeds, fails, wrong_data}
use Rattle.rules.specs.Supplies.{says_yes, load_public}
use Rattle.rules.specs.Commands.{kind_of, key_with, uid_of, load_reply, remove_reply}

pub remove-response : (c : Card) → (remove_reply c).response ≡ []
unfolding remove_reply
remove-response c = refl

pub load-response : (c : Card) (form : KeyForm) (s : List ℕ) → length (load_reply c form s).response ≤ 32
unfolding load_reply
load-response c form s = by_flag (with_keys c (key_with (kind_of form) (uid_of s))) (says_yes s)
  where
    by_flag : (x : Card) (b : Bool) → length (cond b (succeeds x (uid_of s)) (fails c wrong_data)).response ≤ 32
    by_flag x true = omega (arith, length-sha256 (load_public s))
    by_flag x false = omega arith
