-- A command that is not EXPORT with P2 00 does not depend on the private key of EXPORT's supply: two supplies of its length, 98 bytes, that agree
-- in flag and public key, the first 66, have the form for it both or neither, and then it gives both the same reply.
-- Assumes nothing.
use mathlib.Core.Path.{◌≡◌, refl, sym, ap, ◌∙◌}
use mathlib.Core.Bool.{true, false, false≢true}
use mathlib.Core.List.{List, [], ◌∷◌}
use Prim.Native.Nat.{ℕ}
use lib.Dec.{eqb}
use lib.ListN.{length, take, drop}
use Rattle.card.specs.declared.Card.{Card}
use Rattle.rules.specs.declared.ExportPath.{ExportPath}
use Rattle.rules.specs.declared.ExportPart.TheVariants as export_part
use Rattle.rules.specs.declared.Phrase.TheVariants as phrase
use Rattle.rules.specs.declared.Supply.{Supply}
use Rattle.rules.specs.declared.Command.{Command}
use Rattle.rules.specs.declared.Command.TheVariants as command
use Rattle.rules.specs.Supplies.{flag_of, suits, export_public}
use Rattle.rules.specs.Commands.{rule_of, export_reply}
use Rattle.rules.specs.Steps.{supply_of, reply_of}

-- ---- flag and public key are in the first 66 bytes
flag-of : (s : List ℕ) → flag_of s ≡ flag_of (take 66 s)
flag-of [] = refl
flag-of (x ∷ s) = refl

public-of : (s : List ℕ) → export_public s ≡ drop 1 (take 66 s)
public-of [] = refl
public-of (x ∷ s) = refl

-- a supply of another length than the one that is read has not its form
unsuited : (k : Supply) (s : List ℕ) (n : ℕ) → length s ≡ n → eqb k.kind 0 ≡ false → eqb n k.bytes ≡ false → suits k s ≡ false
unfolding suits
unsuited k s n l z e = rw (z, l, e)

module _ (c : Card) (d s t : List ℕ) (l : length s ≡ 98) (m : length t ≡ 98) (e : take 66 s ≡ take 66 t) where
  abbrev pub Alike : Command → Type 0
  Alike k = (suits (supply_of k) s ≡ suits (supply_of k) t) × (suits (supply_of k) s ≡ true → reply_of k c d s ≡ reply_of k c d t)

  flag_same : flag_of s ≡ flag_of t
  flag_same = flag-of s ∙ ap flag_of e ∙ sym (flag-of t)

  public-same : export_public s ≡ export_public t
  public-same = public-of s ∙ ap (drop 1) e ∙ sym (public-of t)

  -- a command that reads a supply of another length
  other : (k : Command) → eqb (supply_of k).kind 0 ≡ false → eqb 98 (supply_of k).bytes ≡ false → Alike k
  other k z n =
      let us = unsuited (supply_of k) s 98 l z n in
      let ut = unsuited (supply_of k) t 98 m z n in
      (us ∙ sym ut, λ h. absurd (false≢true (sym us ∙ h)))

  pub unless-private : (k : Command) → ((which : ExportPath) → k ≡ command.Export which export_part.PrivateAndPublic → ⊥) → Alike k
  unfolding rule_of suits export_reply
  unless-private command.Select p = (refl, λ h. refl)
  unless-private command.Init p = other command.Init refl refl
  unless-private (command.Open i) p = other (command.Open i) refl refl
  unless-private command.Mutual p = other command.Mutual refl refl
  unless-private command.PairFirst p = other command.PairFirst refl refl
  unless-private command.PairFinal p = other command.PairFinal refl refl
  unless-private (command.Unpair i) p = (refl, λ h. refl)
  unless-private (command.Status which) p = (refl, λ h. refl)
  unless-private command.Verify p = (refl, λ h. refl)
  unless-private (command.Change which) p = (refl, λ h. refl)
  unless-private command.Unblock p = (refl, λ h. refl)
  unless-private (command.Load form) p = other (command.Load form) refl refl
  unless-private command.Derive p = other command.Derive refl refl
  unless-private command.Remove p = (refl, λ h. refl)
  unless-private command.SetPinless p = (refl, λ h. refl)
  unless-private command.Sign p = other command.Sign refl refl
  unless-private (command.Export which export_part.PrivateAndPublic) p = absurd (p which refl)
  unless-private (command.Export which export_part.PublicOnly) p = (rw (flag_same, l, m), λ h. rw (flag_same, public-same))
  unless-private command.SetNdef p = (refl, λ h. refl)
  unless-private (command.Mnemonic phrase.Words12) p = other (command.Mnemonic phrase.Words12) refl refl
  unless-private (command.Mnemonic phrase.Words15) p = other (command.Mnemonic phrase.Words15) refl refl
  unless-private (command.Mnemonic phrase.Words18) p = other (command.Mnemonic phrase.Words18) refl refl
  unless-private (command.Mnemonic phrase.Words21) p = other (command.Mnemonic phrase.Words21) refl refl
  unless-private (command.Mnemonic phrase.Words24) p = other (command.Mnemonic phrase.Words24) refl refl
