-- UNSEAL accepts only what was sealed under its session: the response is the sealing of the bytes that it gives.
-- Assumes nothing.
use mathlib.Core.Path.{◌≡◌, refl, sym, ap, ap₂, ◌∙◌}
use mathlib.Core.Bool.{Bool, true, false, cond}
use mathlib.Core.List.{List, ◌++◌}
use mathlib.Core.Option.{Option, none, some}
use Prim.Native.Nat.{ℕ, ◌-◌, ◌≤◌, ◌<◌}
use native.Mathlib.Omega.{arith}
use borrow.Author.Tests.{ltb-false}
use lib.Dec.{ltb}
use lib.ListN.{length, take, drop, take-append-drop}
use Rattle.refusals.specs.Refusals.{no_refusal, no_room, not_genuine, unseal_room}
use Rattle.octets.specs.Bytes.{Bytes, same_bytes}
use Rattle.octets.proofs.Lists.{bytes_take, same-eq}
use Rattle.channel_rules.specs.declared.Session.{Session}
use Rattle.channel_rules.specs.Message.{Keyed, with_iv, response_head, seal_field, open_field}
use Rattle.channel_rules.specs.Terminal.{Out, refused, plain_success, sealed_response, sealed_field, unsealed, unseal_out}
use Rattle.channel_rules.proofs.Fields.{seal-open}

-- ---- a choice that is not refused
not-refused : (b : Bool) (s : Session) (n : ℕ) (y : Out) → 0 < n → (cond b (refused s n) y).refusal ≡ no_refusal → b ≡ false
not-refused true s n y l e = absurd (omega arith)
not-refused false s n y l e = refl

passed : (b : Bool) (s : Session) (n : ℕ) (y : Out) → 0 < n → (cond b y (refused s n)).refusal ≡ no_refusal → b ≡ true
passed true s n y l e = refl
passed false s n y l e = absurd (omega arith)

pub record Given (o : Option (List ℕ)) (bytes : List ℕ) : Type 0 where
  pub is : o ≡ some bytes
  pub two : 2 ≤ length bytes

given : (s : Session) (f : List ℕ) (o : Option (List ℕ)) → (unsealed s f o).refusal ≡ no_refusal → Given o (unsealed s f o).bytes
given s f none e = absurd (omega arith)
given s f (some p) e =
    let long : ltb (length p) 2 ≡ false = not-refused (ltb (length p) 2) s 7 (taken) (omega arith) e in
    rw long (record { is = refl; two = ltb-false (length p) 2 long })
  where
    taken : Out
    taken = record { refusal = no_refusal; session = with_iv s (take 16 f); bytes = p }

module _ (s : Session) (k : Keyed s) (response : List ℕ) (hr : Bytes response) (room : ℕ) (accepted : (unseal_out s response room).refusal ≡ no_refusal) where
  abbrev field : List ℕ
  field = sealed_field response

  abbrev inner : Out
  inner = unsealed s field (open_field s response_head field)

  abbrev ends : Bool
  ends = same_bytes (drop (length response - 2) response) plain_success

  roomy : ltb room unseal_room ≡ false
  unfolding unseal_out
  roomy = not-refused (ltb room unseal_room) s no_room (cond ends inner (refused s not_genuine)) (omega arith) accepted

  behind : unseal_out s response room ≡ cond ends inner (refused s not_genuine)
  unfolding unseal_out
  behind = ap (λ (b : Bool). cond b (refused s no_room) (cond ends inner (refused s not_genuine))) roomy

  ends-plainly : ends ≡ true
  ends-plainly = passed ends s 7 inner (omega arith) (sym (ap (λ (o : Out). o.refusal) behind) ∙ accepted)

  is-inner : unseal_out s response room ≡ inner
  is-inner = behind ∙ ap (λ (b : Bool). cond b inner (refused s not_genuine)) ends-plainly

  opens : Given (open_field s response_head field) inner.bytes
  opens = given s field (open_field s response_head field) (sym (ap (λ (o : Out). o.refusal) is-inner) ∙ accepted)

  pub unseal-sound : response ≡ sealed_response s (unseal_out s response room).bytes
  unfolding sealed_response
  unseal-sound =
      sym (take-append-drop (length response - 2) response)
      ∙ ap₂ (λ (x y : List ℕ). x ++ y) (seal-open s k response_head field inner.bytes (bytes_take (length response - 2) response hr) opens.is)
      (same-eq (drop (length response - 2) response) plain_success ends-plainly)
      ∙ ap (λ (o : Out). seal_field s response_head o.bytes ++ plain_success) (sym is-inner)
