-- What an operation over a card or a session did, with the next card or session as bytes.
-- Assumes nothing.
use Prim.Native.Nat.{ℕ}
use mathlib.Core.Path.{◌≡◌, sym, ap, ◌∙◌, subst}
use mathlib.Core.List.{List, [], ◌∷◌}
use lib.ListN.{length, get_or}
use Rattle.octets.proofs.Lists.{tabulated}
use Rattle.channel_rules.specs.declared.Session.{Session}
use Rattle.channel_rules.specs.Terminal.{Out, seal_out}
use Rattle.sound.specs.declared.Answer.{Answer}
use Rattle.channel_terminal.specs.declared.Outcome.{Outcome}
use Rattle.channel_terminal.specs.Did.{Did}
use Rattle.rules.specs.Engine as rules
use Rattle.rules.specs.declared.Answered as declared
use Rattle.rules.specs.Reports.{AnswerDid}
use Rattle.soft_card_bytes.specs.Flat.{card_flat, session_flat}
use Rattle.soft_byte_calls.specs.declared.CardGiven.{CardGiven}
use Rattle.soft_byte_calls.specs.declared.CardAnswered.{CardAnswered}
use Rattle.soft_byte_calls.specs.Calls.{answer_flat, CardDid, SessionDid}

pub answer-flat : {a o : Answer} {card : List ℕ} → a ≡ o → card ≡ card_flat a.card
    → ◌≡◌ {A = CardGiven} (record { refusal = a.refusal; card = card }) (answer_flat o)
answer-flat {a} p q = ap {B = CardGiven} (λ (x : List ℕ). record { refusal = a.refusal; card = x }) q ∙ ap answer_flat p

-- what is told of an answer, with the card as these bytes
abbrev told_with : declared.Answered → List ℕ → CardAnswered
told_with a x = record { refusal = a.refusal; count = a.count; fault_offset = a.fault_offset; card = x }

pub card-did : {o : rules.AnswerOut} {a : declared.Answered} {card before after : List ℕ} → AnswerDid o a before after → card ≡ card_flat a.card
    → CardDid o (told_with a card) before after
card-did {o} {a} d q = record {
  told = ap (told_with a) q ∙ ap (λ (b : declared.Answered). told_with b (card_flat b.card)) d.told;
  left = d.left;
}

pub session-did : {o : Out} {a : Outcome} {session before after : List ℕ} → Did o a before after → session ≡ session_flat a.session
    → SessionDid o (record { refusal = a.refusal; count = a.count; session = session }) before after
session-did d q = record { told = rw (q, d.refusal, d.count, d.session); left = d.left }

-- SEAL takes the header as its four bytes
pub seal-did : (s : Session) (h plain : List ℕ) (room : ℕ) {a : Outcome} {session before after : List ℕ} → length h ≡ 4
    → Did (seal_out s (get_or h 0 0 ∷ get_or h 1 0 ∷ get_or h 2 0 ∷ get_or h 3 0 ∷ []) plain room) a before after
    → session ≡ session_flat a.session
    → SessionDid (seal_out s h plain room) (record { refusal = a.refusal; count = a.count; session = session }) before after
seal-did s h plain room {a} {session} {before} {after} l d q =
    subst (λ (x : List ℕ). SessionDid (seal_out s x plain room) (record { refusal = a.refusal; count = a.count; session = session }) before after)
    (sym (tabulated 4 h l)) (session-did d q)
