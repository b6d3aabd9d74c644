-- The refusals of the soft card's operations, by their numbers in the table of refusals (crates/refusals).
use Rattle.std.specs.Prelude.{ℕ}
use Rattle.soft_names.specs.declared.refusal_names.Refusal.{Refusal}
use Rattle.soft_names.specs.declared.refusal_names.Refusal.TheVariants.{Unsound, Room, Supply, Malformed, TooDeep, DataLong, NotGenuine, NotRecord, WrongCount, NumberTooLarge, WrongChecksum}

abbrev pub number_of : Refusal → ℕ
number_of Unsound = 1
number_of Room = 2
number_of Supply = 3
number_of Malformed = 4
number_of TooDeep = 5
number_of DataLong = 6
number_of NotGenuine = 7
number_of NotRecord = 8
number_of WrongCount = 9
number_of NumberTooLarge = 10
number_of WrongChecksum = 11
