-- What WRITE promises of a buffer (RULES 3.2): `before` and `after` are its bytes, all lengths are in bytes.
use Rattle.std.specs.Prelude.{ℕ, ◌≡◌, List, length}
use Rattle.octets.specs.Bytes.{written}
use Rattle.card.specs.declared.Card.{Card}
use Rattle.record_rules.specs.Answers.{write_refusal, write_bytes}
use Rattle.record_write.specs.declared.Written.{Written}

-- WRITE: the refusal's number and the count as the definition gives them, and its bytes from the buffer's start
abbrev pub write_answer : Card → ℕ → Written
write_answer c room = record { refusal = write_refusal c room; count = length (write_bytes c room) }

pub record WroteRecord (c : Card) (r : Written) (before after : List ℕ) : Type 0 where
  pub told : r ≡ write_answer c (length before)
  pub left : after ≡ written (write_bytes c (length before)) before
