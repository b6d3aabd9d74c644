-- OPEN's reply, from what the code's calls give.
-- Assumes nothing.
use mathlib.Core.Path.{◌≡◌, refl, ap, ap₂, ◌∙◌}
use mathlib.Core.Bool.{true, false}
use mathlib.Core.List.{List, ◌++◌}
use Prim.Native.Nat.{ℕ}
use Rattle.template_rules.specs.Writing.{Wrote}
use Rattle.card.specs.declared.Card.{Card}
use Rattle.card.specs.declared.Channel.{Channel}
use Rattle.card.specs.State.{with_channel}
use Rattle.rules.specs.declared.Replied.{Replied}
use Rattle.rules.specs.Words.{success, wrong_data, fails}
use Rattle.rules.specs.Code.{replied_of, Replies}
use Rattle.rules.specs.Supplies.{says_yes, open_enc_key, open_mac_key, open_salt, open_iv}
use Rattle.rules.specs.Commands.{opened_with, open_reply}
use Rattle.command_parts.specs.Replies.{said}
use Rattle.command_parts.proofs.ReplyFacts.{wrote-replies, silent}

-- ---- opened_with
pub opened-is : (s enc mac iv : List ℕ) → enc ≡ open_enc_key s → mac ≡ open_mac_key s → iv ≡ open_iv s
    → ◌≡◌ {A = Channel} (record { stage = 1; enc_key = enc; mac_key = mac; iv = iv }) (opened_with s)
opened-is s enc mac iv e m v =
    ap₂ {C = Channel} (λ x y. record { stage = 1; enc_key = x; mac_key = y; iv = iv }) e m
    ∙ ap {B = Channel} (λ z. record { stage = 1; enc_key = open_enc_key s; mac_key = open_mac_key s; iv = z }) v

-- ---- open_reply
module _ (c : Card) (s : List ℕ) {r : Replied} {a : List ℕ} where
  pub open-refused : says_yes s ≡ false → r ≡ replied_of (fails c wrong_data) → Replies (open_reply c s) r a a
  unfolding open_reply
  open-refused f er = rw f (silent (fails c wrong_data) refl er)

  pub open-replied : {n : ℕ} {b : List ℕ} (k : Channel) (next : Card) → says_yes s ≡ true → k ≡ opened_with s → next ≡ with_channel c k
      → Wrote (open_salt s ++ open_iv s) 0 n a b → r ≡ said success n next → Replies (open_reply c s) r a b
  unfolding open_reply
  open-replied k next f e en w er = rw f (wrote-replies next _ er (en ∙ ap (with_channel c) e) w)
