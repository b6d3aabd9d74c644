-- After each turn the bytes done, and the chain over the rest, are the chain over the whole; and what is left of the MAC is the MAC of the whole.
-- Assumes nothing.
use Rattle.aes_word_seal.proofs.seal_blocks.Given as goal
use mathlib.Core.Path.{◌≡◌}
use mathlib.Core.List.{◌++◌}
use Prim.Native.Nat.{◌-◌, ◌*◌, ◌/◌}
use lib.ListN.{length, take, drop}
use Rattle.aes_rules.specs.Cipher.{cipher}
use Rattle.aes_words.specs.Words.{bytes_of}
use Rattle.aes_cbc.specs.Mode.{chain, encrypt_block}
use Rattle.aes_word_seal.proofs.InStep.{rest}

abbrev pub invariant-loop-n : goal.invariant-loop-n
invariant-loop-n l =
    (take (l.n * 16) l.buf ++ chain (encrypt_block (cipher (bytes_of l.w))) (encrypt_block (cipher (bytes_of l.w))) ((length l.initial.buf - l.n * 16) / 16) (bytes_of l.prev) (drop (l.n * 16) l.buf)
    ≡ chain (encrypt_block (cipher (bytes_of l.w))) (encrypt_block (cipher (bytes_of l.w))) (length l.initial.buf / 16) (bytes_of l.initial.prev) l.initial.buf)
    × (rest (cipher (bytes_of l.w)) (cipher (bytes_of l.v)) ((length l.initial.buf - l.n * 16) / 16) (bytes_of l.prev) (bytes_of l.waiting) (drop (l.n * 16) l.buf)
    ≡ rest (cipher (bytes_of l.w)) (cipher (bytes_of l.v)) (length l.initial.buf / 16) (bytes_of l.initial.prev) (bytes_of l.initial.waiting) l.initial.buf)
