-- The key's words come first; after each turn of the second loop the words so far are the schedule so far, and the last turn completes it.
-- Assumes nothing.
use Rattle.aes_word_keys.proofs.key_schedule.Given as goal
use mathlib.Core.Path.{◌≡◌}
use Prim.Native.Nat.{◌*◌}
use lib.ListN.{length, take}
use Rattle.aes_words.specs.Words.{bytes_of}
use Rattle.aes_word_keys.proofs.Growth.{Grown}

abbrev pub invariant-loop-n : goal.invariant-loop-n
invariant-loop-n l = (bytes_of (take l.n l.w) ≡ take (l.n * 4) l.key) × (length l.w ≡ 60)

abbrev pub invariant-loop-k : goal.invariant-loop-k
invariant-loop-k l = Grown l.key l.w (l.k * 4)
