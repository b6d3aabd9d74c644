-- What ASK and ANSWER make of a way through the order of checks, and what the buffer then holds.
-- Assumes nothing.
use Rattle.std.specs.Prelude.{Ok, Err}
use mathlib.Core.Path.{◌≡◌, refl, sym, ap, subst, ◌∙◌}
use mathlib.Core.Bool.{true, false}
use mathlib.Core.List.{List}
use Prim.Native.Nat.{ℕ, ◌-◌, ◌≤◌}
use native.Mathlib.Omega.{arith}
use borrow.Author.Tests.{ne_eqb}
use lib.ListN.{length, take, drop, length-append, length-take, length-drop}
use lib.Seq.{take-append_seam}
use Rattle.octets.specs.Bytes.{overwrite}
use Rattle.octets.proofs.Lists.{overwrite-start}
use Rattle.card.specs.declared.Card.{Card}
use Rattle.rules.specs.declared.Replied.{Replied}
use Rattle.rules.specs.declared.Asked.{Asked}
use Rattle.rules.specs.declared.Answered.{Answered}
use Rattle.refusals.specs.Refusals.{wrong_supply}
use Rattle.rules.specs.Words.{Reply, fails}
use Rattle.rules.specs.Supplies.{suits}
use Rattle.rules.specs.Rules.{no_fault}
use Rattle.rules.specs.Channel.{Outgoing, tell}
use Rattle.rules.specs.Steps.{reply_of, Decision, ends_at}
use Rattle.rules.specs.Engine.{AskOut, ask_refused, asked, answer_refused, answered_at, answered, with_supply}
use Rattle.rules.specs.Reports.{AskDid, AnswerDid}
use Rattle.rules.specs.Code.{reply_with, Replies}
use Rattle.order_ends.specs.declared.Going.{Going}
use Rattle.order_ends.specs.declared.Ended.{Ended}
use Rattle.order_ends.specs.Routes.{Routes, RoutesIn}

-- ---- a command whose checks hold: ANSWER of a sound card, with room enough, and ASK
module _ (c : Card) (want : Decision) (g : Going) (d s : List ℕ) (h : Routes want (Ok g) d) where
  pub answer-refused : suits g.supply s ≡ false → with_supply c want s ≡ answer_refused c wrong_supply
  answer-refused f = ap (λ (x : Decision). with_supply c x s) h.decides ∙ rw (f)

  pub answer-taken : suits g.supply s ≡ true → with_supply c want s ≡ answered (tell g.over (reply_of g.command g.card d s))
  answer-taken f = ap (λ (x : Decision). with_supply c x s) h.decides ∙ rw (f)

  pub ask-none : g.supply.kind ≡ 0 → asked want ≡ ask_refused 0
  ask-none f = ap asked h.decides ∙ rw (f)

  pub ask-some : (g.supply.kind ≡ 0 → ⊥) → asked want ≡ record { refusal = 0; kind = g.supply.kind; bytes = d }
  ask-some f = ap asked h.decides ∙ rw (ne_eqb g.supply.kind 0 f)

-- ---- a command that a step ends
module _ (c : Card) (want : Decision) (e : Ended) (d s : List ℕ) (h : Routes want (Err e) d) where
  pub answer-ended : with_supply c want s ≡ answered_at e.fault_offset (tell e.over (fails e.card e.status))
  unfolding suits
  answer-ended = ap (λ (x : Decision). with_supply c x s) h.decides

  pub ask-ended : asked want ≡ ask_refused 0
  ask-ended = ap asked h.decides

-- ---- another name for what is answered
pub ask-as : (o o' : AskOut) (r : Asked) (b a : List ℕ) → o' ≡ o → AskDid o r b a → AskDid o' r b a
ask-as o o' r b a e h = subst (λ (x : AskOut). AskDid x r b a) (sym e) h

-- ---- refusals: nothing is written
pub answer-nothing : (c : Card) (n : ℕ) (r : Answered) (b : List ℕ) → r ≡ record { refusal = n; count = 0; fault_offset = no_fault; card = c }
    → AnswerDid (answer_refused c n) r b b
answer-nothing c n r b e = record { told = e; left = refl }

pub ask-nothing : (n : ℕ) (r : Asked) (b : List ℕ) → r ≡ record { refusal = n; kind = 0; count = 0 } → AskDid (ask_refused n) r b b
ask-nothing n r b e = record { told = e; left = refl }

-- ---- an answer, and the fault offset that is then put into what is told
abbrev faulted : ℕ → Answered → Answered
faulted n t = record { refusal = t.refusal; count = t.count; fault_offset = n; card = t.card }

pub did_at : (n : ℕ) (o : Outgoing) (t r : Answered) (b a : List ℕ) → AnswerDid (answered o) t b a → r ≡ faulted n t
    → AnswerDid (answered_at n o) r b a
did_at n o t r b a h e = record { told = e ∙ ap (faulted n) h.told; left = h.left }

-- ---- a reply and the scratch that holds its response data
module _ (x : Reply) (r : Replied) (b a : List ℕ) (h : Replies x r b a) where
  pub replied : (n : ℕ) → n ≡ r.count → reply_with r.status (take n a) r.card ≡ x
  replied n e = rw (e, h.told, h.left, take-append_seam x.response (drop (length x.response) b))

  pub replied-short : length a ≡ length b → r.count ≤ length b
  replied-short e = omega (
    arith,
    ap (λ (y : Replied). y.count) h.told,
    e,
    ap length h.left,
    length-append x.response (drop (length x.response) b),
    length-drop (length x.response) b,
  )

-- ---- the data of a command that goes on
pub data-short : (want : Decision) (g : Going) (plain : List ℕ) → RoutesIn want (Ok g) plain → g.count ≤ length plain
data-short want g plain h = omega (arith, h.ready.long, length-take g.count plain)

-- ---- ASK's data in the buffer
pub did-ask : (d : List ℕ) (n : ℕ) (b a : List ℕ) (kind : ℕ) {told : ℕ} → length d ≡ n → a ≡ overwrite b 0 d → told ≡ kind
    → AskDid (record { refusal = 0; kind = kind; bytes = d }) (record { refusal = 0; kind = told; count = n }) b a
did-ask d n b a kind e f k = record { told = cc; left = f ∙ overwrite-start b d }
