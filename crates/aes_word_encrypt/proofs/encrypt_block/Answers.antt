-- The block's words go through the cipher, and their bytes come out.
-- Assumes nothing.
use mathlib.Core.Path.{ap, ◌∙◌}
use Rattle.aes_rules.specs.Cipher.{cipher}
use Rattle.aes_words.specs.Words.{bytes_of}
use Rattle.aes_word_encrypt.proofs.encrypt_block.Goals as goal

pub returns : goal.returns
returns c = c.block_bytes.ensures ∙ c.encrypt_words-ciphertext.ensures ∙ ap (cipher (bytes_of c.args.w.now)) c.block_words-plain.ensures
