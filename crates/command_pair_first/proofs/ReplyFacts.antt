-- From what a writer left in the buffer to what PAIR's first step replies.
-- Assumes nothing.
use mathlib.Core.Path.{◌≡◌, ap, ap₂, ◌∙◌}
use mathlib.Core.List.{List, ◌++◌}
use Prim.Native.Nat.{ℕ}
use lib.ListN.{length}
use Rattle.octets.proofs.Lists.{overwrite-whole}
use Rattle.template_rules.specs.Writing.{Wrote}
use Rattle.template_rules.proofs.WritingFacts.{wrote-same}
use Rattle.card.specs.declared.Card.{Card}
use Rattle.card.specs.declared.Pairing.{Pairing}
use Rattle.card.specs.State.{with_pairing}
use Rattle.rules.specs.declared.Replied.{Replied}
use Rattle.rules.specs.Words.{success}
use Rattle.rules.specs.Code.{Replies}
use Rattle.rules.specs.Supplies.{part, pair_challenge}
use Rattle.rules.specs.Commands.{with_secret, pending_with, pair_first_reply}
use Rattle.command_parts.specs.Replies.{said}
use Rattle.command_parts.proofs.SupplyFacts.{part-rest}
use Rattle.command_parts.proofs.ReplyFacts.{wrote-replies}

-- what fills the whole of an array is what it holds then
pub wrote-whole : {t a b : List ℕ} {n : ℕ} → length t ≡ length a → Wrote t 0 n a b → b ≡ t
wrote-whole {t = t} {a = a} l w = w.buffer ∙ overwrite-whole a t l

-- ---- pair_first_reply: x, y, z, p, next and r are what the calls that make them give
module _ (c : Card) (d s : List ℕ) (ld : length d ≡ 32) where
  pub first-replied : {r : Replied} {n : ℕ} {a b : List ℕ} (k x y z : List ℕ) (p : Pairing) (next : Card) → k ≡ part 0 32 d → y ≡ pair_challenge s
      → x ≡ with_secret c.pairing k → z ≡ with_secret c.pairing y → p ≡ pending_with c.pairing z → Wrote (x ++ y) 0 n a b
      → next ≡ with_pairing c p → r ≡ said success n next → Replies (pair_first_reply c d s) r a b
  unfolding pair_first_reply
  first-replied k x y z p next ek ey ex ez ep w en er =
      wrote-replies next _ er
      (en ∙ ap (with_pairing c) (ep ∙ ap (pending_with c.pairing) (ez ∙ ap (with_secret c.pairing) ey)))
      (wrote-same (ap₂ (λ (l r : List ℕ). l ++ r) (ex ∙ ap (with_secret c.pairing) (ek ∙ part-rest 0 32 d ld)) ey) w)
