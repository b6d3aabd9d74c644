-- The fault offset (RULES 5.9): when ANSWER tells one. Every length and offset is in bytes.
use Rattle.std.specs.Prelude.{ℕ, ◌≡◌, true, List}
use Rattle.template_walk.specs.Walk.{WALK}
use Rattle.card.specs.declared.Card.{Card}
use Rattle.rules.specs.declared.KeyForm.{KeyForm}
use Rattle.rules.specs.declared.KeyForm.TheVariants as key
use Rattle.rules.specs.declared.Command.TheVariants as command
use Rattle.rules.specs.Commands.{is_verified}
use Rattle.rules.specs.Steps.{goes, Arrived, arrival}

-- a LOAD with P1 01 or 02 that comes to the check of its data, and WALK refuses these
pub record LoadFault (c : Card) (cmd : List ℕ) : Type 0 where
  pub arrived : Arrived
  pub form : KeyForm
  pub there : arrival c cmd ≡ goes arrived
  pub asks : arrived.command ≡ command.Load form
  pub template : form ≡ key.Seed → ⊥
  pub verified : is_verified arrived.card.pins ≡ true
  pub refused : (WALK arrived.data').refusal ≡ 0 → ⊥

-- how many bytes of its data come before the tag of the faulty field
abbrev pub offset_of : {c : Card} {cmd : List ℕ} → LoadFault c cmd → ℕ
offset_of x = (WALK x.arrived.data').offset
