-- What WRITE makes of a record that READ took, in literal bytes (RULES 10.5): said a second time, apart from `renewed`. Every length is in bytes.
use Rattle.std.specs.Prelude.{ℕ, ◌≡◌, List, [], ◌∷◌, ◌++◌, length, replicate}

abbrev pub empty_field34 : List ℕ
empty_field34 = 0x34 ∷ 0x00 ∷ 0x00 ∷ []

-- t is s with eight slots in the place of five: after 155 bytes, field 24 of 165 bytes has become one of 264, of which the last 99 are zero
pub record Widened (s t : List ℕ) : Type 0 where
  pub front : List ℕ
  pub slots : List ℕ
  pub back : List ℕ
  pub place : length front ≡ 155
  pub long : length slots ≡ 165
  pub old : s ≡ front ++ (0x24 ∷ 0x00 ∷ 0xA5 ∷ slots ++ back)
  pub new : t ≡ front ++ (0x24 ∷ 0x01 ∷ 0x08 ∷ slots ++ (replicate 99 0 ++ back))

-- the record stays; or field 34 is added, with no content; or the slots are; or both
pub data Renewal (s t : List ℕ) : Type 0 where
  stays : t ≡ s → Renewal s t
  tapped : t ≡ s ++ empty_field34 → Renewal s t
  widened : Widened s t → Renewal s t
  both : (u : List ℕ) → Widened s u → t ≡ u ++ empty_field34 → Renewal s t
