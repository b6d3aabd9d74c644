-- From what a writer left in the buffer to what PAIR's final step replies.
-- Assumes nothing.
use mathlib.Core.Path.{◌≡◌, refl, ap, ◌∙◌}
use mathlib.Core.List.{List, ◌∷◌}
use Prim.Native.Nat.{ℕ, ◌<◌}
use native.Mathlib.Omega.{arith}
use lib.ListN.{length}
use Rattle.octets.proofs.Lists.{◌&◌}
use Rattle.template_rules.specs.Writing.{Wrote}
use Rattle.template_rules.proofs.WritingFacts.{wrote-same}
use Rattle.card.specs.declared.Card.{Card}
use Rattle.card.specs.declared.Slot.{Slot}
use Rattle.card.specs.declared.Pairing.{Pairing}
use Rattle.card.specs.State.{with_pairing, not_pending}
use Rattle.std.specs.Prelude.{Option, Some, None}
use Rattle.card_slots.specs.Free.{first_free, Says}
use Rattle.card_slots.proofs.FreeFacts.{first-free-least}
use Rattle.rules.specs.declared.Replied.{Replied}
use Rattle.rules.specs.Words.{success, no_space, Reply, fails}
use Rattle.rules.specs.Code.{replied_of, Replies}
use Rattle.rules.specs.Supplies.{pair_salt}
use Rattle.rules.specs.Commands.{with_secret, with_slot, filled_with, pair_into, pair_final_reply}
use Rattle.command_parts.specs.Replies.{said}
use Rattle.command_parts.proofs.ReplyFacts.{wrote-replies, silent}

-- a reply by another definition
replies-same : {r r' : Reply} {x : Replied} {a b : List ℕ} → r ≡ r' → Replies r x a b → Replies r' x a b
replies-same e p = rw e at p

-- ---- pair_final_reply
module _ (c : Card) (s : List ℕ) (p : Pairing) (next : Card) (en : next ≡ with_pairing c p) where
  pub final-replied : {r : Replied} {n : ℕ} {a b : List ℕ} (i j : ℕ) (x k : List ℕ) → Some i ≡ first_free c.pairing.slots → j ≡ i
      → x ≡ pair_salt s → k ≡ with_secret c.pairing x → p ≡ with_slot (not_pending c.pairing) i (filled_with k) → Wrote (j ∷ x) 0 n a b
      → r ≡ said success n next → Replies (pair_final_reply c s) r a b
  unfolding pair_final_reply pair_into
  final-replied i j x k f ej ex ek ep w er =
      replies-same (ap (pair_into c s) f)
      (wrote-replies next _ er
      (en
      ∙ ap (with_pairing c)
      (ep ∙ ap (λ (l : List ℕ). with_slot (not_pending c.pairing) i (filled_with l)) (ek ∙ ap (with_secret c.pairing) ex)))
      (wrote-same (ej & ex) w))

  pub final-refused : {r : Replied} {a : List ℕ} → None ≡ first_free c.pairing.slots → p ≡ not_pending c.pairing
      → r ≡ replied_of (fails next no_space) → Replies (pair_final_reply c s) r a a
  unfolding pair_final_reply pair_into
  final-refused f e er =
      replies-same (ap (pair_into c s) f)
      (silent _ refl (er ∙ ap (λ (x : Card). replied_of (fails x no_space)) (en ∙ ap (with_pairing c) e)))

-- the slot that is found is there
pub found_within : (slots : List Slot) (i : ℕ) → Some i ≡ first_free slots → i < length slots
found_within slots i e = within (first_free slots) (first-free-least slots) e
  where
    within : (f : Option ℕ) → Says slots f → Some i ≡ f → i < length slots
    within (Some k) h q = let same : i ≡ k = cc in omega (arith, h.within)
    within None h q = let z : ◌≡◌ {A = ℕ} 0 1 = cc in absurd (omega arith)
