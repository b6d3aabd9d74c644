-- MUTUAL's supply is its response.
-- Assumes nothing.
use mathlib.Core.Path.{◌≡◌, ap, ◌∙◌}
use mathlib.Core.List.{List}
use Prim.Native.Nat.{ℕ, ◌≤◌}
use native.Mathlib.Nat.{zero-add}
use native.Mathlib.Omega.{arith}
use lib.ListN.{length}
use Rattle.octets.specs.Bytes.{overwrite}
use Rattle.template_rules.proofs.WritingFacts.{wrote_one, wrote-same}
use Rattle.card.specs.declared.Card.{Card}
use Rattle.card.specs.declared.Channel.{Channel}
use Rattle.card.specs.State.{with_channel}
use Rattle.rules.specs.declared.Replied.{Replied}
use Rattle.rules.specs.Words.{success}
use Rattle.rules.specs.Code.{Replies}
use Rattle.rules.specs.Commands.{in_stage2, mutual_reply}
use Rattle.command_parts.specs.Replies.{said}
use Rattle.command_parts.proofs.SupplyFacts.{part-rest}
use Rattle.command_parts.proofs.ReplyFacts.{put-replies}

-- ---- mutual_reply: next, r and b are what the calls that make them give
module _ (c : Card) (k : Channel) (s a : List ℕ) where
  pub mutual-replies : (next : Card) {r : Replied} {b : List ℕ} → length s ≡ 32 → k ≡ in_stage2 c.channel → next ≡ with_channel c k
      → b ≡ overwrite a 0 s → r ≡ said success (length s) next → Replies (mutual_reply c s) r a b
  unfolding mutual_reply
  mutual-replies next l ek en eb er = rw (part-rest 0 32 s l) (put-replies s next _ er (en ∙ ap (with_channel c) ek) eb)
