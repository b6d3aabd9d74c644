-- The block enciphered in its place is the chain's next block.
-- Assumes nothing.
use mathlib.Core.Path.{ap, ◌∙◌}
use mathlib.Core.List.{List}
use Prim.Native.Nat.{ℕ}
use Rattle.octets.specs.Bytes.{xor_bytes}
use Rattle.aes_rules.specs.Cipher.{cipher}
use Rattle.aes_words.specs.Words.{bytes_of}
use Rattle.aes_word_cbc.proofs.encrypt_part.Goals as goal

pub returns : goal.returns
returns c = let w : List ℕ = bytes_of c.args.w.now in record { result_value = c.encrypt_words-ciphertext.ensures ∙ ap (cipher w) (c.xor_words.ensures ∙ ap (λ (x : List ℕ). xor_bytes x (bytes_of c.args.prev)) c.slice_words-plain.ensures); part_after = c.put_words.ensures }
