-- What the writers of fields promise of a buffer: `before` and `after` are its bytes, all lengths are in bytes.
use Rattle.std.specs.Prelude.{ℕ, ◌+◌, ◌≡◌, List, length}
use Rattle.octets.specs.Bytes.{overwrite}
use Rattle.record_rules.specs.Fields.{Field, encode_all}

-- the fields are in the buffer from the place `at` on, nothing else has changed, and `next` is the place after them
pub record Put (fs : List Field) (at : ℕ) (before : List ℕ) (next : ℕ) (after : List ℕ) : Type 0 where
  pub place : next ≡ at + length (encode_all fs)
  pub bytes : after ≡ overwrite before at (encode_all fs)
