-- What SEAL makes: its form is right and its field opens. And step 1 leaves a sound card with an open channel as it is.
-- Assumes nothing.
use mathlib.Core.Path.{◌≡◌, refl, sym, ap, ap₂, ◌∙◌}
use mathlib.Core.Bool.{Bool, true, false, ◌&&◌, ◌||◌, not, cond, false≢true}
use mathlib.Core.List.{List}
use mathlib.Core.Logic.{⊎_elim}
use mathlib.Core.Option.{some}
use Prim.Native.Nat.{ℕ}
use native.Mathlib.Omega.{arith}
use borrow.Author.Tests.{ne_eqb, eqb-true}
use lib.Dec.{eqb}
use lib.ListN.{length, take, drop}
use Rattle.template_rules.proofs.HeadFacts.{by-test}
use Rattle.channel_rules.specs.declared.Session.{Session}
use Rattle.channel_rules.specs.Message.{Keyed, with_iv, lc, command_head, ciphertext, field_mac, seal_field, open_field}
use Rattle.channel_rules.specs.Terminal.{sealed_command}
use Rattle.channel_rules.proofs.Trips.{Header, seal-gives, lc-counts, command-field, command-opens, command-sessions, command-keyed}
use Rattle.card.specs.declared.Pairing.{Pairing}
use Rattle.card.specs.declared.Card.{Card}
use Rattle.card.specs.State.{zeros, with_pairing, closed, forgotten}
use Rattle.card.specs.Slots.{is_zero, all_zero}
use Rattle.card.specs.Sound.{is_sound, session_zero}
use Rattle.card.specs.Shape.{Shaped}
use Rattle.card.proofs.Tests.{the-first, both, zero-list}
use Rattle.card.proofs.Rules.{After, PartsRules, pairing-rules, parts-rules, blank-rules, sound-cases}
use Rattle.rules.specs.Steps.{begins, forgetting, step1, data_of}
use Rattle.laws_commands.proofs.Arrival.{data-filled}
use Rattle.laws_exchange.specs.Exchange.{Turn, sealed_by, SealOpens}

module _ (s : Session) (t : Turn) (k : Keyed s) where
  abbrev header : List ℕ
  header = t.header

  abbrev d : List ℕ
  d = t.data'

  abbrev pub cmd : List ℕ
  cmd = sealed_command s header d

  abbrev pub field : List ℕ
  field = seal_field s (command_head header) d

  abbrev pub mac : List ℕ
  mac = field_mac s (command_head header) d

  is-header : Header header
  is-header = record { long = t.four; bytes = t.headerbytes }

  pub gives : sealed_by s t ≡ record { refusal = 0; session = with_iv s mac; bytes = cmd }
  gives = seal-gives s k header d is-header t.databytes t.most t.sealroom t.sealenough

  pub form : data_of cmd ≡ some field
  form =
      let n = lc-counts s k header d is-header t.databytes t.most in
      data-filled header t.four (lc (length (ciphertext s d))) field n (omega arith)

  behind : drop 5 cmd ≡ field
  behind = command-field s k header d is-header t.databytes t.most

  pub opens : open_field s (command_head header) field ≡ some d
  opens = ap (open_field s (command_head header)) (sym behind) ∙ command-opens s k header d is-header t.databytes t.most

  pub mac-is : take 16 field ≡ mac
  mac-is =
      ap (take 16) (sym behind) ∙ ap (λ (x : Session). x.iv) (command-sessions s k header d is-header t.databytes t.most)

  pub sealed-keyed : Keyed (with_iv s mac)
  sealed-keyed = command-keyed s k header d is-header t.databytes t.most

  pub seal-opens : SealOpens s t (sealed_by s t)
  seal-opens = rw gives (record {
    taken = refl;
    form = form ∙ ap some (sym behind);
    opens = command-opens s k header d is-header t.databytes t.most;
    same = command-sessions s k header d is-header t.databytes t.most;
  })

-- ---- step 1 leaves a sound card with an open channel as it is
forgotten-same : (c : Card) → c.pairing.pending ≡ 0 → c.pairing.expected ≡ zeros 32 → forgotten c ≡ c
forgotten-same c p e = sym (ap₂ (λ (n : ℕ) (x : List ℕ). with_pairing c (pairing n x)) p e)
  where
    pairing : ℕ → List ℕ → Pairing
    pairing n x = record { secret = c.pairing.secret; slots = c.pairing.slots; pending = n; expected = x }

pub is-after : (c : Card) → is_sound c ≡ true → (c.channel.stage ≡ 0 → ⊥) → After c
is-after c e n =
    ⊎_elim (λ b. absurd
    (n (eqb-true c.channel.stage 0
    (both (is_zero c.channel.stage) (session_zero c.channel) (blank-rules c b.blank).channel).0)))
    (λ a. a) (sound-cases c e)

pub step1-itself : (c : Card) (cmd : List ℕ) → is_sound c ≡ true → Shaped c → (c.channel.stage ≡ 0 → ⊥)
    → (eqb c.channel.stage 1 && not (begins 0x11 cmd)) ≡ false → step1 cmd c ≡ c
unfolding step1
step1-itself c cmd e h n stays =
    ap (λ (b : Bool). forgetting cmd (cond b (closed c) c)) stays ∙ by-test (λ (x : Card). x ≡ c) (begins 0x12 cmd) (λ t. refl) (λ t. same)
  where
    rules : PartsRules c
    rules = parts-rules c (is-after c e n).parts

    none : is_zero c.pairing.pending ≡ true
    none = the-first (is_zero c.pairing.pending) (is_zero c.channel.stage) (ne_eqb c.channel.stage 0 n) rules.pending

    zero : all_zero c.pairing.expected ≡ true
    zero = ap (λ (b : Bool). not b || all_zero c.pairing.expected) (sym none) ∙ (pairing-rules c.pairing rules.pairing).unused

    same : forgotten c ≡ c
    same = forgotten-same c (eqb-true c.pairing.pending 0 none)
        (zero-list c.pairing.expected zero ∙ ap (λ (m : ℕ). zeros m) h.expected)
