-- What is promised of a buffer that the word numbers of an entropy are put into: `before` and `after` are its bytes, and r counts those written.
use Rattle.std.specs.Prelude.{ℕ, ◌≡◌, List, length}
use Rattle.octets.specs.Bytes.{written}
use Rattle.phrase_rules.specs.Numbers.{numbers_of}

pub record PutNumbers (entropy : List ℕ) (r : ℕ) (before after : List ℕ) : Type 0 where
  pub told : r ≡ length (numbers_of entropy)
  pub left : after ≡ written (numbers_of entropy) before
