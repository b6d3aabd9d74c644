-- The constant table is the rule's, by one test over its 256 entries.
-- Assumes nothing.
use mathlib.Core.Path.{refl}
use Rattle.aes_field.specs.Field.{x_times, ◌•◌}
use Rattle.aes_field.specs.Tables.{sbox}
use Rattle.aes_words.specs.Words.{word}
use Rattle.aes_tables.specs.Tables.{from_row3, table3}
use Rattle.aes_tables.proofs.Entries.{by-test}
use Rattle.aes_tables.proofs.row_3.Goals as goal

pub returns : goal.returns
unfolding table3 sbox word ◌•◌ x_times
returns c = by-test from_row3 _ refl tt
