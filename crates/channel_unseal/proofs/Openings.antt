-- What UNSEAL gives in each case: before the field is opened no room, another end, or what the field gives; after it nothing opened, too
-- little opened, and the plaintext written.
-- Assumes nothing.
use mathlib.Core.Path.{◌≡◌, sym, ap, ◌∙◌}
use mathlib.Core.Bool.{Bool, true, false}
use mathlib.Core.List.{List}
use mathlib.Core.Option.{Option, none}
use Prim.Native.Nat.{ℕ, ◌-◌, ◌≤◌, ◌<◌}
use native.Mathlib.Omega.{arith}
use borrow.Author.Tests.{lt-ltb, le-ltb}
use lib.ListN.{length, take, drop, length-drop}
use Rattle.refusals.specs.Refusals.{no_refusal, no_room, not_genuine, unseal_room}
use Rattle.octets.specs.Bytes.{overwrite, written, same_bytes}
use Rattle.octets.proofs.Lists.{overwrite-start, same-lengths}
use Rattle.channel_rules.specs.declared.Session.{Session}
use Rattle.std.specs.Prelude as rust
use Rattle.channel_rules.specs.Message.{with_iv, response_head, open_field}
use Rattle.channel_rules.specs.Terminal.{Out, refused, plain_success, sealed_field, unsealed, unseal_out}
use Rattle.channel_open.specs.Promise.{Opens}
use Rattle.channel_open.proofs.Openings.{Holds}
use Rattle.channel_terminal.specs.declared.Outcome.{Outcome}
use Rattle.channel_terminal.specs.Did.{Did}

-- ---- before the field is opened
module _ (s : Session) (response : List ℕ) (room : ℕ) where
  abbrev inner : Out
  inner = unsealed s (sealed_field response) (open_field s response_head (sealed_field response))

  abbrev ends : Bool
  ends = same_bytes (drop (length response - 2) response) plain_success

  pub unseal-no-room : room < unseal_room → unseal_out s response room ≡ refused s no_room
  unfolding unseal_out
  unseal-no-room h = rw (lt-ltb room unseal_room h)

  pub unseal-other-end : unseal_room ≤ room → ends ≡ false → unseal_out s response room ≡ refused s not_genuine
  unfolding unseal_out
  unseal-other-end h e = rw (le-ltb room unseal_room h, e)

  pub unseal-opened : unseal_room ≤ room → ends ≡ true → unseal_out s response room ≡ inner
  unfolding unseal_out
  unseal-opened h e = rw (le-ltb room unseal_room h, e)

-- ---- after it
module _ (s : Session) (field : List ℕ) (o : Option (List ℕ)) where
  pub unseal-closed : o ≡ none → unsealed s field o ≡ refused s not_genuine
  unseal-closed e = ap (unsealed s field) e

  pub unseal-short : (n : ℕ) → Holds o n → n < 2 → unsealed s field o ≡ refused s not_genuine
  unseal-short n h l = ap (unsealed s field) h.is ∙ rw (lt-ltb (length h.plain) 2 (omega (arith, h.long)))

  unseal-held : (n : ℕ) (h : Holds o n) → 2 ≤ n → unsealed s field o ≡ record { refusal = no_refusal; session = with_iv s (take 16 field); bytes = h.plain }
  unseal-held n h l = ap (unsealed s field) h.is ∙ rw (le-ltb (length h.plain) 2 (omega (arith, h.long)))

  -- scratch is where the opening left the plaintext; m is its length as the code counts the part
  pub did-unseal : (n m : ℕ) (scratch before after : List ℕ) (r : rust.Option ℕ) (t : Outcome) (mac : List ℕ) → Opens o r scratch → (h : Holds o n) → 2 ≤ n → m ≡ n
      → after ≡ overwrite before 0 (take m scratch) → mac ≡ take 16 field → t.refusal ≡ no_refusal → t.count ≡ n → t.session ≡ with_iv s mac
      → Did (unsealed s field o) t before after
  did-unseal n m scratch before after r t mac p h l em ea eb er ec es =
      let e = unseal-held n h l in
      record {
        refusal = er ∙ sym (ap (λ (x : Out). x.refusal) e);
        count = ec ∙ sym h.long ∙ sym (ap (λ (x : Out). length x.bytes) e);
        session = es ∙ ap (with_iv s) eb ∙ sym (ap (λ (x : Out). x.session) e);
        left = ea ∙ ap (overwrite before 0) plain-is ∙ overwrite-start before h.plain ∙ sym (ap (λ (x : Out). written x.bytes before) e);
      }
    where
      plain-is : take m scratch ≡ h.plain
      plain-is = ap (λ (k : ℕ). take k scratch) (em ∙ sym h.long) ∙ sym (p.left h.plain h.is)

-- a response of fewer than two bytes does not end in 9000
pub too_short : (response : List ℕ) → length response < 2 → same_bytes (drop (length response - 2) response) plain_success ≡ false
too_short response h = same-lengths (drop (length response - 2) response) plain_success (λ e. omega (arith, e, length-drop (length response - 2) response))
