-- The report of a count (RULES 10.6): a field for each number, with the head of the stored record's fields. Every length is in bytes.
use Rattle.std.specs.Prelude.{ℕ, suc, ◌*◌, ◌/◌, ◌%◌, cond, List, [], ◌∷◌, ltb}
use Rattle.refusals.specs.Refusals.{no_refusal, unsound, no_room}
use Rattle.record_rules.specs.Fields.{Field, record_field, encode_all}
use Rattle.record_rules.specs.Lengths.{record_field_bytes}
use Rattle.stock_rules.specs.Counts.{number_count, is_count}

-- ---- a number as four bytes, the high byte first
abbrev pub number_bytes : ℕ
number_bytes = 4

abbrev pub bytes_of : ℕ → List ℕ
bytes_of n = n / 16777216 % 256 ∷ n / 65536 % 256 ∷ n / 256 % 256 ∷ n % 256 ∷ []

-- ---- the fields: the tags count up from the first number's
abbrev pub first_tag : ℕ
first_tag = 0x40

unfoldable pub number_fields : ℕ → List ℕ → List Field
number_fields tag [] = []
number_fields tag (n ∷ more) = record_field tag (bytes_of n) ∷ number_fields (suc tag) more

abbrev pub report_fields : List ℕ → List Field
report_fields c = number_fields first_tag c

unfoldable pub report_of : List ℕ → List ℕ
report_of c = encode_all (report_fields c)

-- ---- the report of a count into a buffer of `room` bytes: the refusal's number or 0, and the bytes written
abbrev pub report_room : ℕ
report_room = number_count * record_field_bytes number_bytes

unfoldable pub report_refusal : List ℕ → ℕ → ℕ
report_refusal c room = cond (is_count c) (cond (ltb room report_room) no_room no_refusal) unsound

unfoldable pub report_bytes : List ℕ → ℕ → List ℕ
report_bytes c room = cond (is_count c) (cond (ltb room report_room) [] (report_of c)) []
