-- Demand 2: what is stated of AES, of its engine from tables, of CBC and of padding (RULES 7.1 to 7.3, 7.5, 7.6, 7.11). Lengths are in bytes; a table has 256 words.
use Rattle.std.specs.Prelude.{ℕ, ◌%◌, ◌<◌, ◌≡◌, List, [], ◌++◌, ◌↔◌, length, get_or}
use Rattle.std.proofs.Math.Option.{some}
use Rattle.std.specs.Int.Bits.{bit_xor}
use Rattle.octets.specs.Bytes.{Bytes, Block, xor_bytes}
use Rattle.aes_field.specs.Field.{◌•◌, sub_byte, inv_sub_byte}
use Rattle.aes_field.specs.Doublings.{ByDoublings}
use Rattle.aes_field.specs.Tables.{sbox, inv_sbox}
use Rattle.aes_rules.specs.Aes.{aes256, inv_aes256, Key}
use Rattle.aes_words.specs.Words.{word, word_bytes}
use Rattle.aes_tables.specs.Tables.{table0, table1, table2, table3}
use Rattle.aes_word_columns.specs.Columns.{mixed_column}
use Rattle.aes_engines.specs.Engines.{Enciphered}
use Rattle.aes_cbc.specs.Mode.{cbc_encrypt, cbc_decrypt, last_block}
use Rattle.aes_padding.specs.Padding.{pad, unpad}

-- the word at b in each of the four tables, from the S-box's byte x: the word of four bytes, the first of them its lowest
pub record TableWords (b x : ℕ) : Type 0 where
  pub row0 : get_or table0 b 0 ≡ word (0x02 • x) x x (0x03 • x)
  pub row1 : get_or table1 b 0 ≡ word (0x03 • x) (0x02 • x) x x
  pub row2 : get_or table2 b 0 ≡ word x (0x03 • x) (0x02 • x) x
  pub row3 : get_or table3 b 0 ≡ word x x (0x03 • x) (0x02 • x)

pub record Ciphers : Type 0 where
  -- both tables have 256 entries, each of them is what FIPS 197's rule gives for its byte, and each table undoes the other
  pub tablelengths : (length sbox ≡ 256) × (length inv_sbox ≡ 256)
  pub sboxrule : (b : ℕ) → b < 256 → get_or sbox b 0 ≡ sub_byte b
  pub invsboxrule : (b : ℕ) → b < 256 → get_or inv_sbox b 0 ≡ inv_sub_byte b
  pub tablesundo : (b : ℕ) → b < 256 → (get_or inv_sbox (get_or sbox b 0) 0 ≡ b) × (get_or sbox (get_or inv_sbox b 0) 0 ≡ b)
  -- each byte's products by 9, 11, 13 and 14, FIPS 197's, are what three doublings of it give
  pub products : (b : ℕ) → b < 256 → ByDoublings b
  -- AES-256 and its inverse, under every key: blocks to blocks, and each undoes the other
  pub blocks : (key s : List ℕ) → Key key → Block s → Block (aes256 key s) × Block (inv_aes256 key s)
  pub aesundone : (key s : List ℕ) → Key key → Block s → inv_aes256 key (aes256 key s) ≡ s
  pub inverseundone : (key s : List ℕ) → Key key → Block s → aes256 key (inv_aes256 key s) ≡ s
  -- the engine from tables: each has 256 words, each word follows from the S-box by one rule, and the first words are these; a word of the schedule and one word of each table
  -- add up to the column that MixColumns makes; and what it gives is what the plain engine gives
  pub fourtables : (length table0 ≡ 256) × (length table1 ≡ 256) × (length table2 ≡ 256) × (length table3 ≡ 256)
  pub tablerule : (b : ℕ) → b < 256 → TableWords b (get_or sbox b 0)
  pub tableexample : (get_or table0 0 0 ≡ 0xa56363c6) × (get_or table1 0 0 ≡ 0x6363c6a5) × (get_or table2 0 0 ≡ 0x63c6a563) × (get_or table3 0 0 ≡ 0xc6a56363)
  pub tablecolumn : (k a b c d : ℕ) → a < 256 → b < 256 → c < 256 → d < 256
      → word_bytes (bit_xor (bit_xor (bit_xor (bit_xor k (get_or table0 a 0)) (get_or table1 b 0)) (get_or table2 c 0)) (get_or table3 d 0))
      ≡ xor_bytes (mixed_column (sub_byte a) (sub_byte b) (sub_byte c) (sub_byte d)) (word_bytes k)
  pub engines : (key s plain tables : List ℕ) → Enciphered key s plain → Enciphered key s tables → plain ≡ tables
  -- CBC of whole blocks, of any number of them: decryption undoes encryption, and encryption decryption
  pub encryptundone : (key iv a : List ℕ) → Key key → Block iv → Bytes a → length a % 16 ≡ 0
      → cbc_decrypt (inv_aes256 key) iv (cbc_encrypt (aes256 key) iv a) ≡ a
  pub decryptundone : (key iv a : List ℕ) → Key key → Block iv → Bytes a → length a % 16 ≡ 0
      → cbc_encrypt (aes256 key) iv (cbc_decrypt (inv_aes256 key) iv a) ≡ a
  -- CBC of a joined to b, both whole blocks, either of them empty or not: CBC of a, then of b with the last ciphertext block of a as IV
  pub encrypted : (key iv a b : List ℕ) → Key key → Block iv → Bytes a → length a % 16 ≡ 0 → length b % 16 ≡ 0
      → cbc_encrypt (aes256 key) iv (a ++ b) ≡ cbc_encrypt (aes256 key) iv a ++ cbc_encrypt (aes256 key) (last_block iv (cbc_encrypt (aes256 key) iv a)) b
  pub decrypted : (key iv a b : List ℕ) → length iv ≡ 16 → length a % 16 ≡ 0 → length b % 16 ≡ 0
      → cbc_decrypt (inv_aes256 key) iv (a ++ b) ≡ cbc_decrypt (inv_aes256 key) iv a ++ cbc_decrypt (inv_aes256 key) (last_block iv a) b
  -- that block is the first IV where there is none, else the last 16 bytes; and the ciphertext of a has as many bytes as a
  pub lastofnone : (iv : List ℕ) → last_block iv [] ≡ iv
  pub lastofsome : (iv a c : List ℕ) → length iv ≡ 16 → length c ≡ 16 → last_block iv (a ++ c) ≡ c
  pub lengths : (key iv a : List ℕ) → Key key → Block iv → Bytes a → length a % 16 ≡ 0 → length (cbc_encrypt (aes256 key) iv a) ≡ length a
  -- y unpads to x exactly if y is x padded, whatever the two are
  pub unpads : (x y : List ℕ) → unpad y ≡ some x ↔ y ≡ pad x
