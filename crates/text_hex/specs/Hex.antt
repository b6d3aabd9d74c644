-- Hexadecimal text in ASCII, two digits to a byte: what a digit is worth, and the bytes that a text spells.
use Rattle.std.specs.Prelude.{ℕ, ◌+◌, ◌*◌, ◌-◌, ◌<◌, ◌≡◌, cond, List, ltb, length, get_or, Option, Some, None}
use Rattle.std.specs.Option.{IsSome, unwrap_or}
use Rattle.octets.specs.Bytes.{tabulate}

-- what the character c is worth as a hexadecimal digit: `0` to `9`, `A` to `F`, `a` to `f`; any other is none
unfoldable pub digit_of : ℕ → Option ℕ
digit_of c =
    cond (ltb c 48) None
    (cond (ltb c 58) (Some (c - 48))
    (cond (ltb c 65) None
    (cond (ltb c 71) (Some (c - 55))
    (cond (ltb c 97) None
    (cond (ltb c 103) (Some (c - 87)) None)))))

-- the two digits of byte number k of a text, the higher first, and what they spell
abbrev pub high : List ℕ → ℕ → Option ℕ
high text k = digit_of (get_or text (2 * k) 0)

abbrev pub low : List ℕ → ℕ → Option ℕ
low text k = digit_of (get_or text (2 * k + 1) 0)

abbrev pub byte_of : List ℕ → ℕ → ℕ
byte_of text k = unwrap_or (high text k) 0 * 16 + unwrap_or (low text k) 0

-- the first n bytes that a text spells
abbrev pub bytes_of : ℕ → List ℕ → List ℕ
bytes_of n text = tabulate n (byte_of text)

-- the text of the first n bytes has no character but digits
abbrev pub Spelled : ℕ → List ℕ → Type 0
Spelled n text = (k : ℕ) → k < n → IsSome (high text k) × IsSome (low text k)

-- the text is the digits of n bytes, and nothing else
pub record Spells (n : ℕ) (text : List ℕ) : Type 0 where
  pub long : length text ≡ 2 * n
  pub digits : Spelled n text
