-- What an operation of the terminal did, against what its definition gives (RULES 3.2): the refusal's number, the count of bytes written, the
-- next session, and every byte of the buffer.
use Rattle.std.specs.Prelude.{ℕ, List, ◌≡◌, length}
use Rattle.octets.specs.Bytes.{written}
use Rattle.channel_rules.specs.Terminal.{Out}
use Rattle.channel_terminal.specs.declared.Outcome.{Outcome}

pub record Did (o : Out) (r : Outcome) (before after : List ℕ) : Type 0 where
  pub refusal : r.refusal ≡ o.refusal
  pub count : r.count ≡ length o.bytes
  pub session : r.session ≡ o.session
  pub left : after ≡ written o.bytes before
