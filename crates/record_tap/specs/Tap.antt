-- The tap read (RULES 10.7): which part of a stored record and a factory record is the card's tap record. Every length and place is in bytes.
use Rattle.std.specs.Prelude.{ℕ, ◌+◌, ◌≡◌, cond, List, [], length, take, drop}
use Rattle.card.specs.Slots.{is_zero}
use Rattle.record_rules.specs.Parse.{field34, content, content_start}
use Rattle.record_rules.specs.Answers.{read_answer}
use Rattle.record_tap.specs.declared.TapPlace.{TapPlace}
use Rattle.record_tap.specs.declared.TapPlace.TheVariants as place

-- where READ takes the record: the content of its field 34, by its place, unless that is empty or not there; then the factory record
abbrev pub place_taken : List ℕ → TapPlace
place_taken s =
    cond (is_zero (length (content s field34))) place.Factory (place.Own (content_start s field34) (length (content s field34)))

-- where READ refuses it: nowhere
unfoldable pub tap_place : List ℕ → TapPlace
tap_place s = cond (is_zero (read_answer s).refusal) (place_taken s) place.Nowhere

-- the part of the record s, or of the factory record f, that a place names
unfoldable pub part_at : TapPlace → List ℕ → List ℕ → List ℕ
part_at place.Nowhere s f = []
part_at (place.Own start count) s f = take count (drop start s)
part_at place.Factory s f = f

abbrev pub tap_part : List ℕ → List ℕ → List ℕ
tap_part s f = part_at (tap_place s) s f

-- which slice the part is lent from, and from where on: a reference's place is a block of memory and an offset in it
abbrev pub LentFrom : TapPlace → ℕ × ℕ → ℕ × ℕ → ℕ × ℕ → Type 0
LentFrom place.Nowhere part stored factory = Unit {0}
LentFrom (place.Own start count) part stored factory = (part.0 ≡ stored.0) × (part.1 ≡ start + stored.1)
LentFrom place.Factory part stored factory = part ≡ factory
