-- The lowest byte of the entry is the first of its four bytes.
-- Assumes nothing.
use Rattle.std.proofs.Common.{rules}
use mathlib.Core.Path.{ap, ◌∙◌}
use mathlib.Core.List.{List}
use Prim.Native.Nat.{ℕ, ◌%◌}
use lib.ListN.{get_or}
use Rattle.aes_tables.proofs.Entries.{entry2}
use Rattle.aes_word_columns.proofs.sub_byte.Goals as goal

pub returns : goal.returns
returns c = let b : ℕ = c.args.b in
    ap (λ (t : List ℕ). get_or t b 0 % 256) c.requires.t2_value ∙ ap (λ (t : List ℕ). get_or t 0 0) (entry2 b (search rules))
