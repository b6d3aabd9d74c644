-- How many bytes of response data SIGN gives: at most 142, so that its reply fits the buffer and can be sealed.
-- Assumes nothing.
use mathlib.Core.List.{List}
use Prim.Native.Nat.{ℕ, ◌≤◌}
use lib.ListN.{length}
use Rattle.card.specs.declared.Card.{Card}
use Rattle.template_answers.proofs.AnswerFacts.{signature-length-le}
use Rattle.rules.specs.Supplies.{sign_key, sign_r, sign_s}
use Rattle.rules.specs.Commands.{sign_reply}
use Rattle.command_parts.proofs.SupplyFacts.{part-le}

pub sign-response : (c : Card) (s : List ℕ) → length (sign_reply c s).response ≤ 142
unfolding sign_reply
sign-response c s = signature-length-le (sign_key s) (sign_r s) (sign_s s) (part-le 0 65 s) (part-le 65 32 s) (part-le 97 32 s)
