-- What a command over the channel comes to at step 6, by its rule: in stage 2 the channel stays, the answer is bytes and can be sealed, and
-- the current path stays bytes.
-- Assumes nothing.
use mathlib.Core.Path.{◌≡◌, refl}
use mathlib.Core.Bool.{true, false, ◌&&◌}
use mathlib.Core.List.{List}
use mathlib.Core.Logic.{⊎_elim}
use Prim.Native.Nat.{ℕ, ◌≤◌, ◌<◌}
use native.Mathlib.Omega.{arith}
use borrow.Author.Tests.{leb-true, eqb-true}
use lib.ListN.{length}
use Rattle.octets.specs.Bytes.{Bytes}
use Rattle.octets.proofs.Lists.{bytes-append}
use Rattle.card.specs.declared.Card.{Card}
use Rattle.card.specs.Slots.{is_zero, all_zero}
use Rattle.card.specs.Sound.{is_sound}
use Rattle.card.specs.Shape.{Shaped}
use Rattle.card.proofs.Tests.{both}
use Rattle.card.proofs.Rules.{pins-rules, parts-rules, blank-rules, sound-cases}
use Rattle.rules.specs.declared.Instruction.{Instruction}
use Rattle.rules.specs.declared.Command.{Command}
use Rattle.rules.specs.Results.{Verdict}
use Rattle.rules.specs.Words.{word, Reply}
use Rattle.rules.specs.Rows.{is_plain}
use Rattle.rules.specs.Channel.{plain_text}
use Rattle.rules.specs.Steps.{checks_of, supply_of, reply_of}
use Rattle.laws_commands.specs.Lawful.{Tries, Plain, Lawful}
use Rattle.laws_commands.proofs.Checks.{by-verdict, by-verdict-below}
use Rattle.laws_exchange.specs.Opens.{outcome_by, outcome}

-- ---- the tries of a sound card
tries_of : (c : Card) → is_sound c ≡ true → Tries c.pins
tries_of c e = ⊎_elim
    (λ b.
    let none = is_zero c.pins.pin_tries && is_zero c.pins.puk_tries in
    let zero = all_zero c.pins.pin && all_zero c.pins.puk in
    let l = both (zero && none) (is_zero c.pins.verified) (blank-rules c b.blank).pins in
    let t = both (is_zero c.pins.pin_tries) (is_zero c.pins.puk_tries) (both zero none l.0).1 in
    record { pin = omega (arith, eqb-true c.pins.pin_tries 0 t.0); puk = omega (arith, eqb-true c.pins.puk_tries 0 t.1) })
    (λ a.
    let r = pins-rules c.pins (parts-rules c a.parts).pins in
    record { pin = leb-true c.pins.pin_tries 3 r.pintries; puk = leb-true c.pins.puk_tries 5 r.puktries })
    (sound-cases c e)

-- ---- an answer's bytes
word-bytes : (w : ℕ) → w < 65536 → Bytes (word w)
word-bytes w h = (omega arith, (omega arith, tt))

plain-text : (r : Reply) → Plain r → Bytes (plain_text r)
plain-text r h = bytes-append r.response (word r.status) h.response (word-bytes r.status h.status)

-- ---- a command that an instruction over the channel lists
module _ (i : Instruction) (k : Command) (law : Lawful i k) (sealed : is_plain i ≡ false) (c : Card) (d s : List ℕ) where
  pub outcome-channel : c.channel.stage ≡ 2 → (outcome k c d s).card.channel ≡ c.channel
  outcome-channel h = by-verdict (λ (v : Verdict). (outcome_by k c d s v).card.channel ≡ c.channel) (supply_of k) (checks_of k c d)
      ((law.over sealed).channel c d s h) (λ w. refl)

  pub outcome-short : Shaped c → length (outcome k c d s).response ≤ 221
  outcome-short h = by-verdict (λ (v : Verdict). length (outcome_by k c d s v).response ≤ 221) (supply_of k) (checks_of k c d)
      (λ t. law.short c d s h) (λ w. omega arith)

  pub outcome-path : Bytes d → Bytes c.keys.current.bytes → Bytes (outcome k c d s).card.keys.current.bytes
  outcome-path h p = by-verdict (λ (v : Verdict). Bytes (outcome_by k c d s v).card.keys.current.bytes) (supply_of k) (checks_of k c d)
      (λ t. (law.over sealed).path c d s h p) (λ w. p)

  module _ (sound : is_sound c ≡ true) (path : Bytes c.keys.current.bytes) (supply : Bytes s) where
    pub reply-bytes : Bytes (plain_text (reply_of k c d s))
    reply-bytes = plain-text (reply_of k c d s) ((law.over sealed).texts c d s (tries_of c sound) path supply)

    pub outcome-bytes : Bytes (plain_text (outcome k c d s))
    outcome-bytes = by-verdict-below (λ (v : Verdict). Bytes (plain_text (outcome_by k c d s v))) (supply_of k) 65536 (checks_of k c d)
        ((law.over sealed).words c d) (λ t. reply-bytes) word-bytes
