-- Shortest unsigned DER integers of numbers that are written high byte first (RULES 9.6).
-- Every length is a number of bytes.
use Rattle.std.specs.Prelude.{Bool, true, cond, List, [], ◌∷◌, ℕ, zero, suc, ◌+◌, ◌*◌, ◌^◌, ◌≤◌, ◌<◌, leb, length, drop}
use Rattle.template_rules.specs.Template.{field}

-- how many zeros are at the front
abbrev pub leading_zeros : List ℕ → ℕ
leading_zeros [] = 0
leading_zeros (zero ∷ s) = suc (leading_zeros s)
leading_zeros (suc x ∷ s) = 0

-- whether a zero has to be put in front: nothing is there, or the first byte would make the number negative
abbrev pub needs_zero : List ℕ → Bool
needs_zero [] = true
needs_zero (x ∷ s) = leb 0x80 x

abbrev pub with_sign : List ℕ → List ℕ
with_sign s = cond (needs_zero s) (0 ∷ s) s

-- the content of the DER integer: the number without its leading zeros, with a zero in front where it needs one
abbrev pub der_content : List ℕ → List ℕ
der_content number = with_sign (drop (leading_zeros number) number)

abbrev pub der_integer : List ℕ → List ℕ
der_integer number = field 0x02 (der_content number)

-- ---- what is proved of the content
-- the number that bytes are, high byte first
abbrev pub number : List ℕ → ℕ
number [] = 0
number (x ∷ s) = x * 256 ^ length s + number s

-- there is a first byte, below 80, so that the number is not negative; and where that is zero and more follows, the next would not be
-- below 80, so that the zero is needed
abbrev pub Shortest : List ℕ → Type 0
Shortest [] = ⊥
Shortest (zero ∷ []) = Unit {0}
Shortest (zero ∷ x ∷ s) = 0x80 ≤ x
Shortest (suc x ∷ s) = suc x < 0x80
