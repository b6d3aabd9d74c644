-- What writing a reply leaves: sealed or in the clear, and the bytes in the buffer.
-- Assumes nothing.
use mathlib.Core.Path.{◌≡◌, refl, sym, ap, subst, ◌∙◌}
use mathlib.Core.Bool.{Bool, true, false, ◌&&◌}
use mathlib.Core.List.{List, [], ◌∷◌, ◌++◌}
use Prim.Native.Nat.{ℕ, ◌+◌, ◌/◌, ◌%◌, ◌<◌}
use native.Mathlib.Omega.{arith}
use lib.Dec.{eqb}
use lib.ListN.{length, drop, length-append}
use lib.Seq.{drop-drop}
use Rattle.octets.specs.Bytes.{overwrite, written}
use Rattle.std.proofs.Common.{w16}
use Rattle.std.specs.Int.{to_be_bytes}
use Rattle.octets.proofs.Lists.{◌&◌, overwrite-behind, overwrite-start}
use Rattle.channel_rules.specs.declared.Session.{Session}
use Rattle.channel_seal.specs.declared.Response.{Response}
use Rattle.channel_seal.specs.Promise.{ResponseSealed}
use Rattle.card.specs.declared.Card.{Card}
use Rattle.rules.specs.Words.{Reply}
use Rattle.rules.specs.Rules.{no_fault}
use Rattle.rules.specs.Channel.{session_of, with_mac, plain_text, plainly, sealed, tell}
use Rattle.rules.specs.declared.Answered.{Answered}
use Rattle.rules.specs.Code.{reply_with}
use Rattle.rules.specs.Engine.{AnswerOut, answered}
use Rattle.rules.specs.Reports.{AnswerDid}

-- ---- what is told of an answer, and another name for what is answered
abbrev pub told_of : ℕ → Card → Answered
told_of n c = record { refusal = 0; count = n; fault_offset = no_fault; card = c }

pub answer-as : (o o' : AnswerOut) (r : Answered) (b a : List ℕ) → o' ≡ o → AnswerDid o r b a → AnswerDid o' r b a
answer-as o o' r b a e h = subst (λ (x : AnswerOut). AnswerDid x r b a) (sym e) h

-- ---- what goes out
pub tell-over : (over : Bool) (r : Reply) → over && eqb r.card.channel.stage 2 ≡ true → tell over r ≡ sealed r
unfolding tell
tell-over over r e = rw (e)

pub tell-plain : (over : Bool) (r : Reply) → over && eqb r.card.channel.stage 2 ≡ false → tell over r ≡ plainly r
unfolding tell
tell-plain over r e = rw (e)

-- ---- bytes in the buffer
pub put-behind : (b x t : List ℕ) → overwrite (overwrite b 0 x) (length x) t ≡ written (x ++ t) b
put-behind b x t =
    ap (λ (y : List ℕ). overwrite y (length x) t) (overwrite-start b x)
    ∙ overwrite-behind x (drop (length x) b) t (length x) refl
    ∙ ap (λ (y : List ℕ). (x ++ t) ++ y) (drop-drop (length t) (length x) b ∙ ap (λ (k : ℕ). drop k b) (sym (length-append x t)))

-- ---- the status word's two bytes
pub word-bytes : (w : ℕ) → w < 65536 → to_be_bytes w16 w ≡ w / 256 ∷ w % 256 ∷ []
word-bytes w h = omega (arith, h) & omega (arith, h) & refl

module _ (w : ℕ) (x : List ℕ) (c : Card) (sw1 sw2 : ℕ) (high : sw1 ≡ w / 256) (low : sw2 ≡ w % 256) where
  text : x ++ (sw1 ∷ sw2 ∷ []) ≡ plain_text (reply_with w x c)
  text = rw (high, low)

  pub did-plainly : (b m a : List ℕ) → m ≡ overwrite b 0 x → a ≡ overwrite m (length x) (sw1 ∷ sw2 ∷ [])
      → AnswerDid (answered (plainly (reply_with w x c))) (told_of (length x + 2) c) b a
  did-plainly b m a e f = record {
    told = ap (λ (n : ℕ). told_of n c) (sym (length-append x (sw1 ∷ sw2 ∷ [])) ∙ ap length text);
    left = f ∙ ap (λ (y : List ℕ). overwrite y (length x) (sw1 ∷ sw2 ∷ [])) e ∙ put-behind b x (sw1 ∷ sw2 ∷ []) ∙ ap (λ (y : List ℕ). written y b) text;
  }

  pub did-sealed : (s : Session) → s ≡ session_of c.channel → (t : Response) (b a : List ℕ) → ResponseSealed s (x ++ (sw1 ∷ sw2 ∷ [])) b t a
      → (next : Card) → next ≡ with_mac c t.session.iv
      → AnswerDid (answered (sealed (reply_with w x c))) (told_of t.count next) b a
  did-sealed s e t b a p next f = record {
    told = told-as q.count (f ∙ ap (λ (y : Session). with_mac c y.iv) q.session);
    left = q.left;
  }
    where
      q : ResponseSealed (session_of c.channel) (plain_text (reply_with w x c)) b t a
      q = subst (λ (y : List ℕ). ResponseSealed (session_of c.channel) y b t a) text
          (subst (λ (y : Session). ResponseSealed y (x ++ (sw1 ∷ sw2 ∷ [])) b t a) e p)

      told-as : {n m : ℕ} {u v : Card} → n ≡ m → u ≡ v → told_of n u ≡ told_of m v
      told-as g h = cc
