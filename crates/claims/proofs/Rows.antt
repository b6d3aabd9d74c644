-- The rows to settle, each from the rules that it speaks of.
-- Assumes nothing.
use mathlib.Core.Path.{◌≡◌, refl, sym, ap, ap₂, ◌∙◌}
use mathlib.Core.Bool.{Bool, true, ◌&&◌, not, cond}
use mathlib.Core.List.{List, [], ◌∷◌, ◌++◌, append_assoc}
use mathlib.Core.Option.{none}
use Prim.Native.Nat.{ℕ, ◌≤◌}
use native.Mathlib.Omega.{arith}
use borrow.Author.Tests.{le-ltb}
use lib.Dec.{eqb}
use lib.ListN.{length, take, drop, length-append}
use lib.Seq.{take_at, drop_at}
use Rattle.aes_padding.specs.Padding.{padded_bytes, pad, unpad}
use Rattle.aes_padding.proofs.Laws.{length-pad}
use Rattle.template_walk.specs.Walk.{field_with, fields_of, template_of}
use Rattle.template_answers.specs.Answers.{signature}
use Rattle.card.specs.declared.Pins.{Pins}
use Rattle.card.specs.declared.Keys.{Keys}
use Rattle.card.specs.declared.Card.{Card}
use Rattle.card.specs.State.{zeros, closed, forgotten}
use Rattle.card.specs.Sound.{is_sound}
use Rattle.rules.specs.declared.StatusKind.TheVariants as status
use Rattle.rules.specs.declared.Command.{Command}
use Rattle.rules.specs.declared.Command.TheVariants as command
use Rattle.rules.specs.Words.{conditions_not_met, word, success}
use Rattle.rules.specs.Supplies.{suits}
use Rattle.rules.specs.Commands.{status_reply, sign_reply, rule_of}
use Rattle.rules.specs.Rows.{row_of}
use Rattle.rules.specs.Channel.{plain_text}
use Rattle.rules.specs.Steps.{then, stops_with, begins, forgetting, step1, data_of, name_of, is_initialised, by_name, step4, step5, past_step1, arrival, supply_of, reply_of, decide}
use Rattle.rules.specs.Engine.{answer_out}
use Rattle.laws_commands.specs.Lawful.{Full}
use Rattle.laws_exchange.specs.Opens.{outcome}
use Rattle.claims.specs.Rows.{Sent, Gives, Initialises, initialised, InChannel, number32, Rows}
use Rattle.claims.proofs.Pins.{here-keeps, gives, first-wrong, third-wrong, right-then}
use Rattle.claims.proofs.AfterInit.{init-full}

-- ---- padding
pad-nothing : pad [] ≡ 0x80 ∷ zeros 15
unfolding pad
pad-nothing = refl

pad-block : (s : List ℕ) → length s ≡ 16 → length (pad s) ≡ 32
unfolding padded_bytes
pad-block s e = length-pad s ∙ ap padded_bytes e

unpad-zeros : unpad (zeros 16) ≡ none
unfolding unpad pad
unpad-zeros = refl

-- ---- 80 F2 00 00 in stage 0
abbrev bare : List ℕ
bare = 0x80 ∷ 0xF2 ∷ 0 ∷ 0 ∷ []

bare-step1 : (c : Card) → c.channel.stage ≡ 0 → step1 bare c ≡ forgotten c
unfolding step1
bare-step1 c z = ap (λ (n : ℕ). forgetting bare (cond (eqb n 1 && not (begins 0x11 bare)) (closed c) c)) z

bare-stops : (c : Card) → is_initialised c ≡ true → c.channel.stage ≡ 0 → past_step1 bare (forgotten c)
    ≡ stops_with (forgotten c) conditions_not_met
unfolding past_step1 data_of name_of step4
bare-stops c i z =
    ap (λ (b : Bool). then (by_name (forgotten c) (name_of b 0x80 0xF2)) (λ j. then (step4 j bare (forgotten c) []) (λ o. step5 j bare o))) i
    ∙ rw z

bare-status : (c : Card) (supply : List ℕ) (room : ℕ) → is_sound c ≡ true → is_initialised c ≡ true → c.channel.stage ≡ 0 → 258 ≤ room
    → ((answer_out c bare supply room).refusal ≡ 0) × ((answer_out c bare supply room).bytes ≡ 0x69 ∷ 0x85 ∷ [])
unfolding answer_out decide arrival suits
bare-status c supply room e i z r = rw (e, le-ltb room 258 r, bare-step1 c z, bare-stops c i z) (refl, refl)

-- ---- GET STATUS after INIT
abbrev said : List ℕ
said = 0xA3 ∷ 0x09 ∷ 0x02 ∷ 0x01 ∷ 0x03 ∷ 0x02 ∷ 0x01 ∷ 0x05 ∷ 0x01 ∷ 0x01 ∷ 0x00 ∷ []

status-full : (c : Card) (d s : List ℕ) → Full c → (reply_of (command.Status status.Application) c d s).response ≡ said
unfolding rule_of status_reply
status-full c d s h = rw (h.pin, h.puk, h.key)

init-is-full : (c : Card) (i : Initialises c) → Full (initialised c i)
init-is-full c i = init-full c i.bytes i.supply i.room i.sound i.fresh i.done

-- tries and kind of key of another card
abbrev Like : Card → Card → Type 0
Like n o =
    (o.pins.pin_tries ≡ n.pins.pin_tries) × (o.pins.puk_tries ≡ n.pins.puk_tries) × (o.keys.kind ≡ n.keys.kind)

full-like : (n o : Card) → Like n o → Full n → Full o
full-like n o l h = record { pin = l.0 ∙ h.pin; puk = l.1 ∙ h.puk; key = l.2 ∙ h.key }

status-sent : (c : Card) (i : Initialises c) (o : Card) → InChannel (initialised c i) o → (q : Sent o)
    → q.opens.arrived.command ≡ command.Status status.Application → Gives o q (said ++ word success)
unfolding rule_of suits status_reply
status-sent c i o h q e =
    gives o h.sound h.stage q (λ v. ap (λ (k : Command). suits (supply_of k) q.supply) e) (said ++ word success)
    (ap (λ (k : Command). plain_text (outcome k x q.opens.arrived.data' q.supply)) e ∙ replies)
  where
    x : Card
    x = q.opens.arrived.card

    full : Full x
    full = full-like (initialised c i) x
        (here-keeps (Like (initialised c i)) (λ y l. l) (λ y mac l. l) o h.stage q (h.pintries, h.puktries, h.kind)) (init-is-full c i)

    replies : plain_text (outcome (command.Status status.Application) x q.opens.arrived.data' q.supply) ≡ said ++ word success
    replies = ap (λ (r : List ℕ). r ++ word success) (status-full x q.opens.arrived.data' q.supply full)

-- ---- SIGN
abbrev r128 : List ℕ
r128 = number32 128

abbrev s1 : List ℕ
s1 = number32 1

sign-parts : (c : Card) (d key : List ℕ) → length key ≡ 65
    → (reply_of command.Sign c d (key ++ r128 ++ s1)).response ≡ signature key r128 s1
unfolding rule_of sign_reply
sign-parts c d key l =
    let k : take 65 (key ++ (r128 ++ s1)) ≡ key = take_at key (r128 ++ s1) 65 l in
    let rest : drop 65 (key ++ (r128 ++ s1)) ≡ r128 ++ s1 = drop_at key (r128 ++ s1) 65 l in
    let far : drop 97 (key ++ (r128 ++ s1)) ≡ s1 = ap (λ (x : List ℕ). drop 97 x) (sym (append_assoc key r128 s1))
    ∙ drop_at (key ++ r128) s1 97 (omega (arith, length-append key r128)) in
    ap (λ (x : List ℕ). signature (take 65 x) (take 32 (drop 65 x)) (take 32 (drop 97 x))) (append_assoc key r128 s1)
    ∙ ap (λ (x : List ℕ). signature x (take 32 (drop 65 (key ++ (r128 ++ s1)))) (take 32 (drop 97 (key ++ (r128 ++ s1))))) k
    ∙ ap₂ (λ (x y : List ℕ). signature key (take 32 x) (take 32 y)) rest far

-- ---- the table
pub rows : Rows
unfolding fields_of field_with template_of
rows = record {
  padnothing = pad-nothing;
  padblock = pad-block;
  unpadzeros = unpad-zeros;
  firstwrong = first-wrong;
  thirdwrong = third-wrong;
  rightthen = right-then;
  barestatus = bare-status;
  statusrule = λ c i d s. status-full (initialised c i) d s (init-is-full c i);
  statussent = status-sent;
  signed = sign-parts;
  walkempty = refl;
  walkmalformed = refl;
}
