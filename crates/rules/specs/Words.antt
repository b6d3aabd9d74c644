-- The status words by name (RULES 5.8), the checks that give them, and what a command's rule answers (RULES 6.2).
use Rattle.std.specs.Prelude.{ℕ, ◌+◌, ◌/◌, ◌%◌, Bool, true, cond, List, [], ◌∷◌, ◌≡◌, Err, Ok}
use Rattle.card.specs.declared.Card.{Card}
use Rattle.rules.specs.declared.Supply.{Supply}
use Rattle.rules.specs.Results.{Verdict}

-- ---- the status words (RULES 5.8), SW1 SW2 as one number
abbrev pub success : ℕ
success = 0x9000

-- 63CX: X tries left
abbrev pub tries_left : ℕ → ℕ
tries_left n = 0x63C0 + n

abbrev pub wrong_length : ℕ
wrong_length = 0x6700

abbrev pub security_not_met : ℕ
security_not_met = 0x6982

abbrev pub reference_invalid : ℕ
reference_invalid = 0x6984

abbrev pub conditions_not_met : ℕ
conditions_not_met = 0x6985

abbrev pub wrong_data : ℕ
wrong_data = 0x6A80

abbrev pub not_found : ℕ
not_found = 0x6A82

abbrev pub no_space : ℕ
no_space = 0x6A84

abbrev pub wrong_parameters : ℕ
wrong_parameters = 0x6A86

abbrev pub unknown_instruction : ℕ
unknown_instruction = 0x6D00

abbrev pub unknown_class : ℕ
unknown_class = 0x6E00

-- a status word's two bytes
abbrev pub word : ℕ → List ℕ
word w = w / 256 ∷ w % 256 ∷ []

-- ---- checks (RULES 5.6, 6.2): what must hold, and the status word where it does not
pub record Check : Type 0 where
  pub holds : Bool
  pub otherwise : ℕ

abbrev pub must : Bool → ℕ → Check
must b w = record { holds = b; otherwise = w }

-- where all hold, the supply is read; otherwise the status word is that of the first check that does not
abbrev pub verdict : Supply → List Check → Verdict
verdict s [] = Ok s
verdict s (k ∷ more) = cond k.holds (verdict s more) (Err k.otherwise)

-- each check holds
abbrev pub Hold : List Check → Type 0
Hold [] = Unit {0}
Hold (k ∷ more) = (k.holds ≡ true) × Hold more

-- ---- what a command's rule answers (RULES 6.2): the status word, the response data, and the next card
pub record Reply : Type 0 where
  pub status : ℕ
  pub response : List ℕ
  pub card : Card

abbrev pub succeeds : Card → List ℕ → Reply
succeeds c response = record { status = success; response = response; card = c }

abbrev pub fails : Card → ℕ → Reply
fails c w = record { status = w; response = []; card = c }
