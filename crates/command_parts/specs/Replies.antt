-- What a command's function answers, from its three parts.
use Rattle.std.specs.Prelude.{ℕ}
use Rattle.card.specs.declared.Card.{Card}
use Rattle.rules.specs.declared.Replied.{Replied}

abbrev pub said : ℕ → ℕ → Card → Replied
said status count c = record { status = status; count = count; card = c }
