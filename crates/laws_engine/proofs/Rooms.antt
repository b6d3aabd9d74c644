-- The room that ASK and ANSWER ask for is enough: ASK writes at most 255 bytes; ANSWER, where it does not refuse, 2 to 242. Assumes the shape
-- of the card that is given to ANSWER, and that the command given to ASK is made of bytes.
use mathlib.Core.Path.{◌≡◌, refl, sym, ap, ◌∙◌, subst}
use mathlib.Core.Bool.{Bool, true, false, ◌&&◌, not}
use mathlib.Core.List.{List}
use mathlib.Core.Option.{Option, none, some}
use Prim.Native.Nat.{ℕ, ◌≤◌}
use native.Mathlib.Omega.{arith}
use lib.Dec.{ltb, leb, eqb}
use lib.ListN.{length, take, drop, length-append, length-take}
use borrow.Author.Tests.{eqb-true, eqb-false}
use Rattle.octets.specs.Bytes.{Bytes}
use Rattle.octets.proofs.Lists.{bytes-at}
use Rattle.channel_rules.specs.Message.{command_head}
use Rattle.template_rules.proofs.HeadFacts.{by-test}
use Rattle.refusals.specs.Refusals.{answer_room}
use Rattle.card.specs.declared.Card.{Card}
use Rattle.card.specs.Sound.{is_sound}
use Rattle.card.specs.Shape.{Shaped}
use Rattle.rules.specs.declared.Instruction.{Instruction}
use Rattle.rules.specs.declared.Command.{Command}
use Rattle.rules.specs.Results.{Verdict}
use Rattle.rules.specs.Words.{wrong_parameters, word, Reply, fails}
use Rattle.rules.specs.Supplies.{suits}
use Rattle.rules.specs.Rows.{row_of, is_plain}
use Rattle.rules.specs.Channel.{session_of, Outgoing, plain_text, plainly, tell}
use Rattle.rules.specs.Steps.{Step, goes, stops, step1, lc_of, lc_fits, data_of, header_of, p1_of, p2_of, Opened, opened_by, Arrived, past_step1, arrival, checks_of, supply_of, reply_of, Decision, by_verdict, step6, finish, decide}
use Rattle.rules.specs.Engine.{AnswerOut, ask_out, answer_out}
use Rattle.laws_commands.proofs.Checks.{by-verdict}
use Rattle.laws_commands.proofs.Arrival.{At, card_at, lost_at, arrived_at, by-step5, by-opened, by-past_step1}
use Rattle.laws_commands.proofs.Parts.{closed-shaped, forgotten-shaped}
use Rattle.laws_commands.proofs.Table.{lawful}
use Rattle.laws_engine.proofs.Lengths.{sealed-length, sealed-most, opened-most}
use Rattle.laws_engine.proofs.Sound.{begun-keeps, step1-shaped, mac-shaped}
use Rattle.laws_engine.proofs.Agreement.{ask-data, ask-empty}

-- ---- ANSWER: 2 to 242 bytes
abbrev Sized : Outgoing → Type 0
Sized t = (2 ≤ length t.bytes) × (length t.bytes ≤ 242)

plain-length : (r : Reply) → length r.response ≤ 221 → (2 ≤ length (plain_text r)) × (length (plain_text r) ≤ 223)
plain-length r h =
    let l = length-append r.response (word r.status) in
    (omega arith, omega arith)

tell-sized : (over : Bool) (r : Reply) → length r.response ≤ 221 → Sized (tell over r)
unfolding tell
tell-sized over r h = by-test Sized (over && eqb r.card.channel.stage 2)
    (λ e. (
      omega (arith, sealed-length (session_of r.card.channel) (plain_text r)),
      sealed-most (session_of r.card.channel) (plain_text r) (plain-length r h).1,
    ))
    (λ e. let l = plain-length r h in (l.0, omega (arith, l.1)))

-- no response data
nothing : 0 ≤ 221
nothing = omega arith

-- the status word alone, plain
word-alone : (2 ≤ 2) × (2 ≤ 242)
word-alone = (omega arith, omega arith)

abbrev Brief : Decision → Type 0
Brief d = (s : List ℕ) → Sized (d.answer s)

step6-brief : (i : Instruction) (cmd : List ℕ) (o : Opened) (k : Command) → (row_of i).lists (p1_of cmd) (p2_of cmd) ≡ some k
    → Shaped o.card → Brief (step6 (arrived_at i cmd o k))
unfolding step6
step6-brief i cmd o k e h =
    by-verdict (λ (v : Verdict). Brief (by_verdict (arrived_at i cmd o k) v)) (supply_of k) (checks_of k (card_at i o) o.data')
    (λ t s. tell-sized (not (is_plain i)) (reply_of k (card_at i o) o.data' s)
    ((lawful i (p1_of cmd) (p2_of cmd) k e).short (card_at i o) o.data' s
    (begun-keeps Shaped closed-shaped forgotten-shaped (row_of i).loss o.card h)))
    (λ w s. tell-sized (not (is_plain i)) (fails (lost_at i cmd o) w) nothing)

opened-shaped : (cmd : List ℕ) (c : Card) → Shaped c → (x : At cmd c) → Shaped x.opened.card
opened-shaped cmd c h x = by-opened (λ (o : Opened). Shaped o.card) x.instruction cmd c x.field (λ p. h)
    (λ p t d e. mac-shaped c (take 16 x.field) h) x.opened x.opens

pub decide-sized : (c : Card) (cmd s : List ℕ) → Shaped c
    → (2 ≤ length ((decide c cmd).answer s).bytes) × (length ((decide c cmd).answer s).bytes ≤ 242)
unfolding decide arrival
decide-sized c cmd s h = by-past_step1 (λ (x : Step Arrived). Brief (finish x)) cmd (step1 cmd c) (λ w t. word-alone) (λ t. word-alone)
    (λ x. by-step5 (λ (y : Step Arrived). Brief (finish y)) x.instruction cmd x.opened
    (λ t. tell-sized (not (is_plain x.instruction)) (fails (lost_at x.instruction cmd x.opened) wrong_parameters) nothing)
    (λ k e. step6-brief x.instruction cmd x.opened k e (opened-shaped cmd (step1 cmd c) (step1-shaped cmd c h) x))) s

pub answer-most : (c : Card) (cmd s : List ℕ) (room : ℕ) → Shaped c → length (answer_out c cmd s room).bytes ≤ 242
unfolding answer_out
answer-most c cmd s room h = by-test Most (is_sound c)
    (λ e. by-test Most (ltb room answer_room)
    (λ t. omega arith)
    (λ t. by-test Most (suits (decide c cmd).supply s) (λ u. (decide-sized c cmd s h).1) (λ u. omega arith)))
    (λ e. omega arith)
  where
    Most : AnswerOut → Type 0
    Most o = length o.bytes ≤ 242

-- ---- ASK: at most 255 bytes
abbrev Within : Option (List ℕ) → Type 0
Within none = Unit {0}
Within (some d) = length d ≤ 255

data-within : (cmd : List ℕ) → Bytes cmd → Within (data_of cmd)
unfolding data_of
data-within cmd b = by-test Within (ltb (length cmd) 4) (λ e. tt)
    (λ e. by-test Within (leb (length cmd) 5) (λ t. omega arith)
    (λ t. by-test Within (lc_fits (lc_of cmd) (length cmd)) (λ u. small) (λ u. tt)))
  where
    small : length (take (lc_of cmd) (drop 5 cmd)) ≤ 255
    small = simp length-take (omega (arith, bytes-at cmd b 4))

-- the data of a command that arrives
abbrev pub Few : Step Arrived → Type 0
Few (goes a) = length a.data' ≤ 255
Few (stops t) = Unit {0}

at-within : (cmd : List ℕ) (c : Card) → Bytes cmd → (x : At cmd c) → length x.opened.data' ≤ 255
at-within cmd c b x = by-opened (λ (o : Opened). length o.data' ≤ 255) x.instruction cmd c x.field
    (λ p. subst Within x.form (data-within cmd b))
    (λ p t d e. omega (arith, opened-most (session_of c.channel) (command_head (header_of cmd)) x.field d e)) x.opened x.opens

pub arrival-few : (c : Card) (cmd : List ℕ) → Bytes cmd → Few (arrival c cmd)
unfolding arrival
arrival-few c cmd b = by-past_step1 Few cmd (step1 cmd c) (λ w. tt) tt
    (λ x. by-step5 Few x.instruction cmd x.opened tt (λ k e. at-within cmd (step1 cmd c) b x))

pub ask-most : (c : Card) (cmd : List ℕ) (room : ℕ) → Bytes cmd → is_sound c ≡ true → 255 ≤ room → length (ask_out c cmd room).bytes ≤ 255
ask-most c cmd room b e a = by_kind (eqb (ask_out c cmd room).kind 0) refl
  where
    by_kind : (t : Bool) → eqb (ask_out c cmd room).kind 0 ≡ t → length (ask_out c cmd room).bytes ≤ 255
    by_kind true z = omega (arith, ap length (ask-empty c cmd room e a (eqb-true _ 0 z)))
    by_kind false z =
        let r = ask-data c cmd room e a (eqb-false _ 0 z) in
        let l = subst Few r.1 (arrival-few c cmd b) in
        omega (arith, ap length r.2)
