-- What the reverse of the word numbers promises of a buffer (RULES 7.12): `before` and `after` are its bytes, all lengths are in bytes.
use Rattle.std.specs.Prelude.{ℕ, ◌≡◌, List, length}
use Rattle.octets.specs.Bytes.{written}
use Rattle.phrase_rules.specs.Reverse.{reverse_refusal, reverse_bytes}
use Rattle.phrase_reverse.specs.declared.Entropy.{Entropy}

-- the refusal's number and the count as the definition gives them, and its bytes from the buffer's start
abbrev pub reverse_answer : List ℕ → ℕ → Entropy
reverse_answer words room = record { refusal = reverse_refusal words room; count = length (reverse_bytes words room) }

pub record Reversed (words : List ℕ) (r : Entropy) (before after : List ℕ) : Type 0 where
  pub told : r ≡ reverse_answer words (length before)
  pub left : after ≡ written (reverse_bytes words (length before)) before
