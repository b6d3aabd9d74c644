-- From what a writer left in the buffer to what a command replies.
-- Assumes nothing.
use mathlib.Core.Path.{◌≡◌, refl, ap, ap₂, ◌∙◌}
use mathlib.Core.List.{List, [], ◌++◌}
use Prim.Native.Nat.{ℕ, ◌+◌, ◌≤◌}
use native.Mathlib.Nat.{zero-add}
use native.Mathlib.Omega.{arith}
use lib.ListN.{length, length-append}
use Rattle.octets.specs.Bytes.{overwrite}
use Rattle.octets.proofs.Lists.{overwrite-next, overwrite-start}
use Rattle.template_rules.specs.Writing.{Wrote}
use Rattle.card.specs.declared.Card.{Card}
use Rattle.rules.specs.declared.Replied.{Replied}
use Rattle.rules.specs.Words.{success, Reply, succeeds, fails}
use Rattle.rules.specs.Code.{replied_of, Replies}
use Rattle.command_parts.specs.Replies.{said}

-- ---- Replies: success with what was written, and a reply without response data
module _ {r : Replied} {n : ℕ} {a b t : List ℕ} where
  pub wrote-replies : (c c' : Card) → r ≡ said success n c → c ≡ c' → Wrote t 0 n a b → Replies (succeeds c' t) r a b
  wrote-replies c c' er e w =
      record {
        told = er ∙ ap₂ (λ (m : ℕ) (x : Card). said success m x) (w.place ∙ zero-add (length t)) e;
        left = w.buffer ∙ overwrite-start a t;
      }

-- what one call of put wrote
pub put-replies : {r : Replied} {a b : List ℕ} (t : List ℕ) (c c' : Card) → r ≡ said success (length t) c → c ≡ c' → b ≡ overwrite a 0 t
    → Replies (succeeds c' t) r a b
put-replies {a = a} t c c' er e eb = record { told = er ∙ ap (λ (x : Card). said success (length t) x) e; left = eb ∙ overwrite-start a t }

pub silent : (x : Reply) {r : Replied} {b : List ℕ} → x.response ≡ [] → r ≡ replied_of x → Replies x r b b
silent x e t = record { told = t; left = rw e }

-- ---- Wrote: two parts, one after the other from the buffer's start
pub wrote-two : {b c : List ℕ} (a t u : List ℕ) → length t + length u ≤ length a → b ≡ overwrite a 0 t → c ≡ overwrite b (length t) u
    → Wrote (t ++ u) 0 (length t + length u) a c
wrote-two a t u h e f =
    record {
      place = omega (arith, length-append t u);
      fits = h;
      buffer = f ∙ ap (λ (x : List ℕ). overwrite x (length t) u) e ∙ overwrite-next a 0 (length t) t u (omega arith) (omega arith);
    }
