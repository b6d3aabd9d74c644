-- What a rule of a command is (RULES 6.2): its checks, then a comparison or a supply, and its reply; and the fault offset in its data (RULES 5.9).
use Rattle.std.specs.Prelude.{ℕ, Bool, true, List, take}
use Rattle.std.proofs.Math.Option.{Option, none, some}
use Rattle.octets.specs.Bytes.{same_bytes}
use Rattle.card.specs.declared.Pins.{Pins}
use Rattle.card.specs.declared.Card.{Card}
use Rattle.rules.specs.declared.Supply.{Supply}
use Rattle.rules.specs.Words.{Check, Reply}
use Rattle.rules.specs.Supplies.{no_supply}

-- ---- the two secrets that a command can be compared with, and when the comparison comes out right (RULES 6.3): the data are the PIN, or
-- their first 12 bytes are the PUK
pub data Secret : Type 0 where
  pin : Secret
  puk : Secret

abbrev pub right_by : Secret → Pins → List ℕ → Bool
right_by pin p d = same_bytes d p.pin
right_by puk p d = same_bytes (take 12 d) p.puk

-- how a comparison comes out, where there is one
abbrev pub outcome_of : Option Secret → Pins → List ℕ → Bool
outcome_of none p d = true
outcome_of (some s) p d = right_by s p d

-- ---- the fault offset (RULES 5.9), where there is none: opened data have at most 223 bytes
abbrev pub no_fault : ℕ
no_fault = 255

-- ---- a rule (RULES 6.2): the checks, in order; the secret that is compared past them, if any; the supply that is read past them; the
-- reply, from how the comparison came out, the card, the data and the supply; and the fault offset in wrong data
pub record Rule : Type 0 where
  pub checks : Card → List ℕ → List Check
  pub compares : Option Secret
  pub supply : Supply
  pub reply : Bool → Card → List ℕ → List ℕ → Reply
  pub place : List ℕ → ℕ

-- a rule that compares nothing
abbrev pub rule : (Card → List ℕ → List Check) → Supply → (Card → List ℕ → List ℕ → Reply) → Rule
rule checks supply reply = record { checks = checks; compares = none; supply = supply; reply = λ _. reply; place = λ _. no_fault }

-- such a rule that tells where its data are at fault
abbrev pub placing : (List ℕ → ℕ) → Rule → Rule
placing place r = record { checks = r.checks; compares = r.compares; supply = r.supply; reply = r.reply; place = place }

-- a rule that compares and reads no supply
abbrev pub comparing : Secret → (Card → List ℕ → List Check) → (Bool → Card → List ℕ → Reply) → Rule
comparing s checks reply = record { checks = checks; compares = some s; supply = no_supply; reply = λ right c d _. reply right c d; place = λ _. no_fault }
