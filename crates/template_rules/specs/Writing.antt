-- What a function that writes into a buffer promises.
-- Every length is a number of bytes.
use Rattle.std.specs.Prelude.{◌≡◌, List, ℕ, ◌+◌, ◌≤◌, length}
use Rattle.octets.specs.Bytes.{overwrite}

-- t is whole in the buffer from byte `at` on, every other byte is as it was, and `next` is the place after t
pub record Wrote (t : List ℕ) (at next : ℕ) (before after : List ℕ) : Type 0 where
  pub place : next ≡ at + length t
  pub fits : next ≤ length before
  pub buffer : after ≡ overwrite before at t
