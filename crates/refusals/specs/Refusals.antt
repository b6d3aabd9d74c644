-- The table of refusals (RULES 3.2): the numbers, in order, and the room that each operation asks of a buffer.
-- An operation gives the lowest number that applies. Every room is in bytes.
use Rattle.std.specs.Prelude.{ℕ}

-- ---- the numbers
abbrev pub no_refusal : ℕ
no_refusal = 0

-- the state is not sound
abbrev pub unsound : ℕ
unsound = 1

-- the buffer has less room than the operation asks for
abbrev pub no_room : ℕ
no_room = 2

-- ANSWER: a supply is read and its length, or its flag byte, is wrong
abbrev pub wrong_supply : ℕ
wrong_supply = 3

-- WALK: malformed
abbrev pub malformed : ℕ
malformed = 4

-- WALK: too deep
abbrev pub too_deep : ℕ
too_deep = 5

-- SEAL: more data than a sealed message holds
abbrev pub data_long : ℕ
data_long = 6

-- UNSEAL: not genuine
abbrev pub not_genuine : ℕ
not_genuine = 7

-- READ: not a record
abbrev pub not_record : ℕ
not_record = 8

-- word numbers back to entropy: not 12, 15, 18, 21 or 24 numbers of 2 bytes
abbrev pub wrong_count : ℕ
wrong_count = 9

-- word numbers back to entropy: a number has more than 11 bits
abbrev pub number_too_large : ℕ
number_too_large = 10

-- word numbers back to entropy: the checksum is not the entropy's
abbrev pub wrong_checksum : ℕ
wrong_checksum = 11

-- PLAN: no plan is made
abbrev pub no_plan : ℕ
no_plan = 12

-- the stock count: one record more, or the sum of two counts, would hold more than 65,535 records fed
abbrev pub count_full : ℕ
count_full = 13

-- ---- the rooms (RULES 3.2); that of WRITE follows from the record's fields and is with them (crate `record_rules`, specs/Lengths.antt)
abbrev pub ask_room : ℕ
ask_room = 255

abbrev pub answer_room : ℕ
answer_room = 258

abbrev pub seal_room : ℕ
seal_room = 261

abbrev pub unseal_room : ℕ
unseal_room = 223

abbrev pub entropy_room : ℕ
entropy_room = 32

-- ---- the most data before padding, which SEAL takes, in bytes (RULES 3.2, 8.3)
abbrev pub data_most : ℕ
data_most = 223
