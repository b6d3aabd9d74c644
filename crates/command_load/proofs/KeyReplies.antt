-- The reply of LOAD, from what the code's calls give. Every length is in bytes.
-- Assumes nothing.
use mathlib.Core.Path.{◌≡◌, refl, sym, ap, ap₂, ◌∙◌}
use mathlib.Core.Bool.{Bool, true, false, cond}
use mathlib.Core.List.{List}
use Prim.Native.Nat.{ℕ}
use Rattle.octets.specs.Bytes.{overwrite}
use Rattle.sha_rules.proofs.Blocks.{length-sha256}
use Rattle.card.specs.declared.Keys.{Keys}
use Rattle.card.specs.declared.Card.{Card}
use Rattle.card.specs.State.{with_keys}
use Rattle.rules.specs.declared.KeyForm.{KeyForm}
use Rattle.rules.specs.declared.Replied.{Replied}
use Rattle.rules.specs.Words.{success, wrong_data, fails}
use Rattle.rules.specs.Code.{replied_of, Replies}
use Rattle.rules.specs.Supplies.{says_yes, load_public}
use Rattle.rules.specs.Commands.{kind_of, key_with, uid_of, load_reply}
use Rattle.command_parts.specs.Replies.{said}
use Rattle.command_parts.proofs.ReplyFacts.{put-replies, silent}

-- ---- load_reply: uid, kind, keys, next, r and b are what the calls that make them give
module _ (c : Card) (form : KeyForm) (s : List ℕ) {r : Replied} {a : List ℕ} where
  pub load-no : says_yes s ≡ false → r ≡ replied_of (fails c wrong_data) → Replies (load_reply c form s) r a a
  unfolding load_reply
  load-no e er = rw e (silent (fails c wrong_data) refl er)

  pub load-yes : {b : List ℕ} (uid : List ℕ) (kind : ℕ) (keys : Keys) (next : Card) → says_yes s ≡ true → uid ≡ uid_of s
      → b ≡ overwrite a 0 uid → kind ≡ kind_of form → keys ≡ key_with kind uid → next ≡ with_keys c keys → r ≡ said success 32 next
      → Replies (load_reply c form s) r a b
  unfolding load_reply
  load-yes uid kind keys next e eu eb ek ey en er =
      rw e
      (put-replies (uid_of s) next _
      (er ∙ ap {B = Replied} (λ (n : ℕ). said success n next) (sym (length-sha256 (load_public s))))
      (en ∙ ap (with_keys c) (ey ∙ ap₂ {C = Keys} (λ k u. key_with k u) ek eu))
      (eb ∙ ap (overwrite a 0) eu))
