-- What the operations over bytes tell: what the operations over cards and sessions do, with the next card as its bytes and the next
-- session as its. Every count, length and offset is in bytes.
use Rattle.std.specs.Prelude.{ℕ, ◌≡◌, List, length}
use Rattle.octets.specs.Bytes.{written}
use Rattle.sound.specs.declared.Answer.{Answer}
use Rattle.channel_rules.specs.Terminal.{Out}
use Rattle.rules.specs.Engine as rules
use Rattle.soft_card_bytes.specs.Flat.{card_flat, session_flat}
use Rattle.soft_byte_calls.specs.declared.CardGiven.{CardGiven}
use Rattle.soft_byte_calls.specs.declared.CardAnswered.{CardAnswered}
use Rattle.soft_byte_calls.specs.declared.Sealed.{Sealed}

-- RESET and READ write no bytes
abbrev pub answer_flat : Answer → CardGiven
answer_flat a = record { refusal = a.refusal; card = card_flat a.card }

-- ANSWER: refusal, count, fault offset, next card, and every byte of the buffer
abbrev pub report_flat : rules.AnswerOut → CardAnswered
report_flat o = record { refusal = o.refusal; count = length o.bytes; fault_offset = o.fault_offset; card = card_flat o.card }

pub record CardDid (o : rules.AnswerOut) (r : CardAnswered) (before after : List ℕ) : Type 0 where
  pub told : r ≡ report_flat o
  pub left : after ≡ written o.bytes before

-- SEAL and UNSEAL: refusal, count, next session, and every byte of the buffer
abbrev pub sealed_flat : Out → Sealed
sealed_flat o = record { refusal = o.refusal; count = length o.bytes; session = session_flat o.session }

pub record SessionDid (o : Out) (r : Sealed) (before after : List ℕ) : Type 0 where
  pub told : r ≡ sealed_flat o
  pub left : after ≡ written o.bytes before
