-- What a word that was typed means as bytes (docs/SOFTCARD.md, "Bytes"). A word is the list of its characters, in ASCII.
-- Every length is in bytes.
use Rattle.std.specs.Prelude.{◌≡◌, Bool, cond, Result, Ok, Err, ◌&&◌, List, [], ◌∷◌, ◌++◌, ℕ, ◌+◌, ◌*◌, ◌-◌, ◌/◌, ltb, eqb, length, drop, get_or}
use Rattle.std.specs.Option.{is_some, unwrap_or}
use Rattle.std.specs.List.{list_all}
use Rattle.octets.specs.Bytes.{overwrite, written, same_bytes}
use Rattle.text_fill.specs.Steps.{stepped}
use Rattle.text_decimal.specs.Decimal.{is_number, number_of}
use Rattle.text_hex.specs.Hex.{digit_of, high, low, byte_of, bytes_of}
use Rattle.soft_word_bytes.specs.declared.ValueFault.{ValueFault}
use Rattle.soft_word_bytes.specs.declared.ValueFault.TheVariants.{Form, Many}

-- ---- what is meant: bytes, or why the word is not taken
abbrev pub Meant : Type 0
Meant = Result (List ℕ) ValueFault

abbrev pub taken : List ℕ → Meant
taken s = Ok s

-- it is not written as bytes are
abbrev pub form : Meant
form = Err Form

-- it means more bytes than there is room for
abbrev pub many : Meant
many = Err Many

unfoldable pub within : ℕ → Meant → Meant
within room (Ok s) = cond (ltb room (length s)) many (taken s)
within room (Err fault) = Err fault

-- ---- one piece
-- `00A40400`: two hexadecimal digits a byte, at least one byte
abbrev pub all_hex : List ℕ → Bool
all_hex s = list_all (λ c. is_some (digit_of c)) s

abbrev pub is_pairs : List ℕ → Bool
is_pairs p = ltb 0 (length p / 2) && (eqb (length p) (2 * (length p / 2)) && all_hex p)

unfoldable pub pairs : List ℕ → Meant
pairs p = cond (is_pairs p) (taken (bytes_of (length p / 2) p)) form

-- `00*32` and `A0+16`: a byte, a sign, and how many bytes; each is by `step` more than the one before it
abbrev pub is_counted : List ℕ → Bool
is_counted p = is_some (high p 0) && (is_some (low p 0) && is_number (drop 3 p))

unfoldable pub counted : ℕ → List ℕ → Meant
counted step p = cond (is_counted p) (taken (stepped (byte_of p 0) step (unwrap_or (number_of (drop 3 p)) 0))) form

-- `last`; `*`, which is 42, or `+`, which is 43, after two characters; or digits
unfoldable pub piece_of : List ℕ → List ℕ → Meant
piece_of last p =
    cond (same_bytes p (108 ∷ 97 ∷ 115 ∷ 116 ∷ [])) (taken last)
    (cond (eqb (get_or p 2 0) 42) (counted 0 p)
    (cond (eqb (get_or p 2 0) 43) (counted 1 p)
    (pairs p)))

-- ---- `01.11*32`: pieces joined by dots, which are 46
-- what comes before the first dot, and the pieces after it
abbrev pub first_piece : List ℕ → List ℕ
first_piece [] = []
first_piece (c ∷ s) = cond (eqb c 46) [] (c ∷ first_piece s)

abbrev pub later_pieces : List ℕ → List (List ℕ)
later_pieces [] = []
later_pieces (c ∷ s) = cond (eqb c 46) (first_piece s ∷ later_pieces s) (later_pieces s)

abbrev pub pieces_in : List ℕ → List (List ℕ)
pieces_in w = first_piece w ∷ later_pieces w

-- the bytes of the pieces, in order, after the bytes that are there; the first fault decides
unfoldable pub onward : Meant → (List ℕ → Meant) → Meant
onward (Ok s) next = next s
onward (Err fault) next = Err fault

abbrev pub joined : List ℕ → ℕ → List ℕ → List (List ℕ) → Meant
joined last room there [] = taken there
joined last room there (p ∷ ps) = onward (within (room - length there) (piece_of last p)) (λ s. joined last room (there ++ s) ps)

-- ---- a word, where there is room for so many bytes; `-`, which is 45, means none
unfoldable pub meaning : List ℕ → List ℕ → ℕ → Meant
meaning last w room = cond (same_bytes w (45 ∷ [])) (taken []) (joined last room [] (pieces_in w))

-- ---- what a function answers and leaves in a buffer
-- the fault, or before which byte the bytes end that begin at byte `at`
abbrev pub end_of : ℕ → Meant → Result ℕ ValueFault
end_of at (Ok s) = Ok (at + length s)
end_of at (Err fault) = Err fault

pub record Puts (m : Meant) (at : ℕ) (answer : Result ℕ ValueFault) (before after : List ℕ) : Type 0 where
  pub told : answer ≡ end_of at m
  pub left : (s : List ℕ) → m ≡ Ok s → after ≡ overwrite before at s

-- the fault, or how many bytes; they are in the buffer from its start
abbrev pub length_of : Meant → Result ℕ ValueFault
length_of (Ok s) = Ok (length s)
length_of (Err fault) = Err fault

pub record Reads (m : Meant) (answer : Result ℕ ValueFault) (before after : List ℕ) : Type 0 where
  pub told : answer ≡ length_of m
  pub left : (s : List ℕ) → m ≡ Ok s → after ≡ written s before
