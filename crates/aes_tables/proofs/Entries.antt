-- A list whose entries pass the test against the rule at the S-box's 256 bytes is the rule's table; and what the entries of a table are.
-- Assumes nothing.
use mathlib.Core.Path.{◌≡◌, ap, ◌∙◌}
use mathlib.Core.List.{List, [], ◌∷◌}
use Prim.Native.Nat.{ℕ, ◌<◌}
use lib.Dec.{T, eqb}
use lib.ListN.{get_or, length}
use Rattle.octets.proofs.Table.{all_below, agree-below}
use Rattle.octets.proofs.Lists.{tabulated, tabulate-ext, get_d_tabulate}
use Rattle.aes_field.specs.Field.{◌•◌, sub_byte}
use Rattle.aes_field.specs.Tables.{sbox}
use Rattle.aes_field.proofs.Sbox.{sbox-rule, sub-byte-byte}
use Rattle.aes_field.proofs.Products.{product-byte}
use Rattle.aes_words.specs.Words.{word_bytes}
use Rattle.aes_words.proofs.Words.{word-bytes}
use Rattle.aes_tables.specs.Tables.{from_row0, from_row1, from_row2, from_row3, table_of, table0, table1, table2, table3}

-- the test goes over the S-box's table, and the law of that table leads to its rule
pub by-test : (column : ℕ → ℕ) (s : List ℕ) → length s ≡ 256 → T (all_below (λ b. eqb (get_or s b 0) (column (get_or sbox b 0))) 256) → s ≡ table_of column
by-test column s l t =
    tabulated 256 s l
    ∙ tabulate-ext 256 (λ b. get_or s b 0) (λ b. column (sub_byte b))
    (λ b h. agree-below (λ b. get_or s b 0) (λ b. column (get_or sbox b 0)) 256 t b h ∙ ap column (sbox-rule b h))

entry : (column : ℕ → ℕ) (b : ℕ) → b < 256 → get_or (table_of column) b 0 ≡ column (sub_byte b)
entry column b h = get_d_tabulate 256 (λ b. column (sub_byte b)) b h

-- ---- the bytes of an entry
module _ (b : ℕ) (h : b < 256) where
  abbrev v : ℕ
  v = sub_byte b

  one : v < 256
  one = sub-byte-byte b h

  twice : 2 • v < 256
  twice = product-byte 2 v one

  thrice : 3 • v < 256
  thrice = product-byte 3 v one

  pub entry0 : word_bytes (get_or table0 b 0) ≡ (2 • v) ∷ v ∷ v ∷ (3 • v) ∷ []
  unfolding table0
  entry0 = ap word_bytes (entry from_row0 b h) ∙ word-bytes (2 • v) v v (3 • v) twice one one thrice

  pub entry1 : word_bytes (get_or table1 b 0) ≡ (3 • v) ∷ (2 • v) ∷ v ∷ v ∷ []
  unfolding table1
  entry1 = ap word_bytes (entry from_row1 b h) ∙ word-bytes (3 • v) (2 • v) v v thrice twice one one

  pub entry2 : word_bytes (get_or table2 b 0) ≡ v ∷ (3 • v) ∷ (2 • v) ∷ v ∷ []
  unfolding table2
  entry2 = ap word_bytes (entry from_row2 b h) ∙ word-bytes v (3 • v) (2 • v) v one thrice twice one

  pub entry3 : word_bytes (get_or table3 b 0) ≡ v ∷ v ∷ (3 • v) ∷ (2 • v) ∷ []
  unfolding table3
  entry3 = ap word_bytes (entry from_row3 b h) ∙ word-bytes v v (3 • v) (2 • v) one one thrice twice
