-- Each word that is read is the entry of its table, and the sum of the entries is MixColumns.
-- Assumes nothing.
use mathlib.Core.Path.{ap, ◌∙◌}
use mathlib.Core.List.{List}
use Prim.Native.Nat.{ℕ, ◌/◌, ◌%◌}
use native.Mathlib.Omega.{arith}
use lib.ListN.{get_or}
use Rattle.aes_words.specs.Words.{word_bytes}
use Rattle.aes_tables.specs.Tables.{FourTables}
use Rattle.aes_tables.proofs.Entries.{entry0, entry1, entry2, entry3}
use Rattle.aes_word_columns.specs.Columns.{sub0, sub1, sub2, sub3}
use Rattle.aes_word_columns.proofs.Sums.{mixed-sum}
use Rattle.aes_word_columns.proofs.mix_column.Goals as goal

pub returns : goal.returns
returns c = let g = c.args in
    let tables : FourTables g.t0.now g.t1.now g.t2.now g.t3.now = c.requires in
    mixed-sum (sub0 g.a) (sub1 g.b) (sub2 g.c) (sub3 g.d) g.k _ _ _ _
    (ap (λ (t : List ℕ). word_bytes (get_or t (g.a % 256) 0)) tables.row0 ∙ entry0 (g.a % 256) (omega arith))
    (ap (λ (t : List ℕ). word_bytes (get_or t (g.b / 256 % 256) 0)) tables.row1 ∙ entry1 (g.b / 256 % 256) (omega arith))
    (ap (λ (t : List ℕ). word_bytes (get_or t (g.c / 65536 % 256) 0)) tables.row2 ∙ entry2 (g.c / 65536 % 256) (omega arith))
    (ap (λ (t : List ℕ). word_bytes (get_or t (g.d / 16777216 % 256) 0)) tables.row3 ∙ entry3 (g.d / 16777216 % 256) (omega arith))
