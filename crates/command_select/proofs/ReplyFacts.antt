-- SELECT's reply, from what the code's calls give.
-- Assumes nothing.
use mathlib.Core.Path.{◌≡◌}
use mathlib.Core.List.{List}
use Prim.Native.Nat.{ℕ}
use Rattle.template_rules.specs.Writing.{Wrote}
use Rattle.card.specs.declared.Card.{Card}
use Rattle.card.specs.State.{closed}
use Rattle.rules.specs.declared.Replied.{Replied}
use Rattle.rules.specs.Words.{success}
use Rattle.rules.specs.Code.{Replies}
use Rattle.rules.specs.Commands.{selected, select_reply}
use Rattle.command_parts.specs.Replies.{said}
use Rattle.command_parts.proofs.ReplyFacts.{wrote-replies}

-- ---- select_reply: k is the closed card
module _ {r : Replied} {n : ℕ} {a b : List ℕ} (c k : Card) where
  pub select-replied : k ≡ closed c → Wrote (selected c.initialised c.identity c.pairing.slots c.keys) 0 n a b
      → r ≡ said success n k → Replies (select_reply c) r a b
  unfolding select_reply
  select-replied e w er = wrote-replies _ _ er e w
