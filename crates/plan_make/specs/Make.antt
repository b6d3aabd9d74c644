-- The plan that the planner makes: which of the three commands it needs, and their bytes. What is promised of it is in crate `plan_rules`
-- (`Plans`). Every length is in bytes.
use Rattle.std.specs.Prelude.{ℕ, Bool, ◌&&◌, ◌||◌, not, cond, List, [], ◌∷◌, ◌++◌, length}
use Rattle.octets.specs.Bytes.{same_bytes}
use Rattle.card.specs.declared.Pins.{Pins}
use Rattle.card.specs.declared.Keys.{Keys}
use Rattle.card.specs.State.{path_bytes}
use Rattle.rules.specs.Commands.{is_verified, is_set}
use Rattle.plan_make.specs.declared.Needs.{Needs}

-- ---- a command of a plan: 80, the instruction byte, P1 and P2 00, the number of data bytes, and the data
abbrev pub command_bytes : ℕ → List ℕ → List ℕ
command_bytes b d = 0x80 ∷ b ∷ 0 ∷ 0 ∷ length d ∷ d

-- where it is wanted, or nothing
abbrev pub wanted : Bool → ℕ → List ℕ → List ℕ
wanted w b d = cond w (command_bytes b d) []

-- ---- what is needed: a path that is not yet as asked, and VERIFY where a command before which the PIN is not verified asks for it
abbrev pub is_there : Keys → List ℕ → Bool
is_there k current = same_bytes (path_bytes k.current) current

abbrev pub is_pinless : Keys → List ℕ → Bool
is_pinless k pinless = same_bytes (path_bytes k.pinless) pinless

abbrev pub needs_verify : Bool → Bool → Bool → Bool → Bool
needs_verify verified isset set derive = not verified && (set || (derive && not isset))

abbrev pub needs_of : Pins → Keys → List ℕ → List ℕ → Needs
needs_of p k current pinless = record {
  verify = needs_verify (is_verified p) (is_set k.pinless) (not (is_pinless k pinless)) (not (is_there k current));
  set = not (is_pinless k pinless);
  derive = not (is_there k current);
}

-- ---- the plan
abbrev pub plan_of : Needs → List ℕ → List ℕ → List ℕ → List ℕ
plan_of n pin current pinless = wanted n.verify 0x20 pin ++ (wanted n.set 0xC1 pinless ++ wanted n.derive 0xD1 current)
