-- The block enciphered in its place is the chain's next block, and the other block went through its own cipher.
-- Assumes nothing.
use mathlib.Core.Path.{ap, ◌∙◌}
use mathlib.Core.List.{List}
use Prim.Native.Nat.{ℕ}
use Rattle.octets.specs.Bytes.{xor_bytes}
use Rattle.aes_rules.specs.Cipher.{cipher}
use Rattle.aes_words.specs.Words.{bytes_of}
use Rattle.aes_word_seal.proofs.seal_part.Goals as goal

pub returns : goal.returns
returns c = let g = c.args in
    let pair = c.encrypt_pair-pair in record { first_value = pair.ensures.first_value ∙ ap (cipher (bytes_of g.w.now)) (c.xor_words-chained.ensures ∙ ap (λ (x : List ℕ). xor_bytes x (bytes_of g.prev)) c.slice_words-plain.ensures); second_value = pair.ensures.second_value; part_after = c.put_words.ensures }
