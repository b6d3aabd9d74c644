-- What is stated of AES, of CBC and of padding: laws of the crates whose definitions they speak of.
-- Assumes nothing.
use mathlib.Core.Path.{◌≡◌, sym, ap, ◌∙◌, subst}
use Prim.Native.Nat.{ℕ, ◌<◌}
use native.Mathlib.Omega.{arith}
use lib.ListN.{get_or, length}
use Rattle.octets.proofs.Lists.{length-tabulate, get_d_tabulate}
use Rattle.aes_field.proofs.Doublings.{by-doublings}
use Rattle.aes_field.proofs.Sbox.{sbox-length, inv-sbox-length, sbox-rule, inv-sbox-rule, inv-sbox-sbox, sbox-inv-sbox}
use Rattle.aes_rules.specs.Aes.{aes256, inv_aes256}
use Rattle.aes_rules.proofs.Permutation.{aes-permutes}
use Rattle.aes_field.specs.Field.{◌•◌, x_times, sub_byte}
use Rattle.aes_words.specs.Words.{word}
use Rattle.aes_field.specs.Tables.{sbox}
use Rattle.aes_tables.specs.Tables.{from_row0, from_row1, from_row2, from_row3, table0, table1, table2, table3}
use Rattle.aes_tables.proofs.Entries.{entry0, entry1, entry2, entry3}
use Rattle.aes_word_columns.proofs.Sums.{mixed-sum}
use Rattle.aes_cbc.proofs.Laws.{length-cbc-encrypt, aes-cbc-decrypt-encrypt, aes-cbc-encrypt-decrypt}
use Rattle.aes_cbc.proofs.Joining.{encrypt-joined, decrypt-joined, last-of-none, last-of-some}
use Rattle.aes_padding.specs.Padding.{unpad}
use Rattle.aes_padding.proofs.Laws.{unpad-pad, pad-unpad}
use Rattle.claims.specs.Ciphers.{TableWords, Ciphers}

table-lengths : (length table0 ≡ 256) × (length table1 ≡ 256) × (length table2 ≡ 256) × (length table3 ≡ 256)
unfolding table0 table1 table2 table3
table-lengths =
    (length-tabulate 256 (λ b. from_row0 (sub_byte b)), length-tabulate 256 (λ b. from_row1 (sub_byte b)), length-tabulate 256 (λ b. from_row2 (sub_byte b)), length-tabulate 256 (λ b. from_row3 (sub_byte b)))

-- the S-box's table has the rule's byte at b
table-words : (b : ℕ) → b < 256 → TableWords b (get_or sbox b 0)
unfolding table0 table1 table2 table3
table-words b h = subst (λ (x : ℕ). TableWords b x) (sym (sbox-rule b h)) (record { row0 = get_d_tabulate 256 (λ b. from_row0 (sub_byte b)) b h; row1 = get_d_tabulate 256 (λ b. from_row1 (sub_byte b)) b h; row2 = get_d_tabulate 256 (λ b. from_row2 (sub_byte b)) b h; row3 = get_d_tabulate 256 (λ b. from_row3 (sub_byte b)) b h })

first-words : (get_or table0 0 0 ≡ 0xa56363c6) × (get_or table1 0 0 ≡ 0x6363c6a5) × (get_or table2 0 0 ≡ 0x63c6a563) × (get_or table3 0 0 ≡ 0xc6a56363)
unfolding word ◌•◌ x_times sbox
first-words = let t = table-words 0 (omega arith) in (t.row0, t.row1, t.row2, t.row3)

pub ciphers : Ciphers
ciphers = record {
  tablelengths = (sbox-length, inv-sbox-length);
  sboxrule = sbox-rule;
  invsboxrule = inv-sbox-rule;
  tablesundo = λ b h. (inv-sbox-sbox b h, sbox-inv-sbox b h);
  products = by-doublings;
  blocks = λ key s hk hs. ((aes-permutes key hk).block s hs, (aes-permutes key hk).inv_block s hs);
  aesundone = λ key s hk. (aes-permutes key hk).inv_ciph s;
  inverseundone = λ key s hk. (aes-permutes key hk).ciph_inv s;
  fourtables = table-lengths;
  tablerule = table-words;
  tableexample = first-words;
  tablecolumn = λ k a b c d ha hb hc hd. mixed-sum (sub_byte a) (sub_byte b) (sub_byte c) (sub_byte d) k (get_or table0 a 0) (get_or table1 b 0) (get_or table2 c 0) (get_or table3 d 0) (entry0 a ha) (entry1 b hb) (entry2 c hc) (entry3 d hd);
  engines = λ key s plain tables e f. e ∙ sym f;
  encryptundone = aes-cbc-decrypt-encrypt;
  decryptundone = aes-cbc-encrypt-decrypt;
  encrypted = λ key iv a b hk. encrypt-joined (aes256 key) (inv_aes256 key) (aes-permutes key hk) iv a b;
  decrypted = λ key iv a b. decrypt-joined (inv_aes256 key) iv a b;
  lastofnone = last-of-none;
  lastofsome = last-of-some;
  lengths = λ key iv a hk. length-cbc-encrypt (aes256 key) (inv_aes256 key) (aes-permutes key hk) iv a;
  unpads = λ x y. (pad-unpad x y, λ e. ap unpad e ∙ unpad-pad x);
}
