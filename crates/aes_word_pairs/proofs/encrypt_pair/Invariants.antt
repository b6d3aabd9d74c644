-- Ahead of round r the words of each block are its own state after the rounds 1 to r - 1; the last round completes each cipher.
-- Assumes nothing.
use Rattle.aes_word_pairs.proofs.encrypt_pair.Given as goal
use mathlib.Core.Path.{◌≡◌}
use Prim.Native.Nat.{◌-◌}
use Rattle.aes_rules.specs.Cipher.{rounds}
use Rattle.aes_words.specs.Words.{bytes_of}

abbrev pub invariant-loop-r : goal.invariant-loop-r
invariant-loop-r l = (bytes_of l.a ≡ rounds (bytes_of l.w) (l.r - 1) (bytes_of l.initial.a)) × (bytes_of l.b ≡ rounds (bytes_of l.v) (l.r - 1) (bytes_of l.initial.b))
