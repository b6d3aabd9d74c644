-- After each turn the last block of the chain over the rest is that of the chain over the whole.
-- Assumes nothing.
use Rattle.aes_word_mac.proofs.last_block.Given as goal
use mathlib.Core.Path.{◌≡◌}
use Prim.Native.Nat.{◌-◌, ◌*◌, ◌/◌}
use lib.ListN.{length, drop}
use Rattle.aes_rules.specs.Cipher.{cipher}
use Rattle.aes_words.specs.Words.{bytes_of}
use Rattle.aes_cbc.specs.Mode.{chain, encrypt_block, last_block}

abbrev pub invariant-loop-plain : goal.invariant-loop-plain
invariant-loop-plain l =
    (last_block (bytes_of l.prev) (chain (encrypt_block (cipher (bytes_of l.w))) (encrypt_block (cipher (bytes_of l.w))) (length l.fn.xs / 16 - l.plain-index) (bytes_of l.prev) (drop (l.plain-index * 16) l.fn.xs))
    ≡ last_block (bytes_of l.initial.prev) (chain (encrypt_block (cipher (bytes_of l.w))) (encrypt_block (cipher (bytes_of l.w))) (length l.fn.xs / 16) (bytes_of l.initial.prev) l.fn.xs))
    × (length l.prev ≡ 4)
