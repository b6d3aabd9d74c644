-- A sealed command whose P1 and P2 name no command: step 5 stops with 6A86 after the opening, and in stage 2 ANSWER seals it and the card is the
-- one of the opening.
-- Assumes nothing.
use Rattle.std.specs.Prelude.{Ok}
use mathlib.Core.Path.{◌≡◌, refl, ap, ◌∙◌}
use mathlib.Core.Bool.{true, false}
use mathlib.Core.List.{List}
use mathlib.Core.Option.{none, some}
use Prim.Native.Nat.{ℕ, ◌≤◌}
use borrow.Author.Tests.{le-ltb}
use lib.ListN.{take}
use Rattle.card.specs.declared.Card.{Card}
use Rattle.card.specs.Sound.{is_sound}
use Rattle.rules.specs.declared.Instruction.{Instruction}
use Rattle.rules.specs.Words.{wrong_parameters, fails}
use Rattle.rules.specs.Supplies.{suits}
use Rattle.rules.specs.Rows.{row_of, is_plain}
use Rattle.rules.specs.Channel.{with_mac, Outgoing, sealed, tell}
use Rattle.rules.specs.Steps.{stops, step1, data_of, cla_of, ins_of, p1_of, p2_of, name_of, is_initialised, in_stage, opened_by, step4, step5, past_step1, arrival, decide}
use Rattle.rules.specs.Engine.{answered, answer_out}
use Rattle.laws_commands.proofs.Arrival.{lost_at}
use Rattle.laws_commands.proofs.Table.{row_lawful}
use Rattle.laws_exchange.proofs.Answers.{sealed-in-2}

-- ---- steps 1 to 5, where step 1 leaves the card x and the field opens to d
module _ (c x : Card) (cmd field d : List ℕ) (i : Instruction) (same : step1 cmd c ≡ x) (form : data_of cmd ≡ some field)
    (name : name_of (is_initialised x) (cla_of cmd) (ins_of cmd) ≡ Ok i) (over : is_plain i ≡ false)
    (staged : in_stage i x.channel.stage ≡ true) (opens : opened_by x cmd field ≡ some d)
    (unlisted : (row_of i).lists (p1_of cmd) (p2_of cmd) ≡ none) where
  abbrev here : Card
  here = with_mac x (take 16 field)

  stops-there : arrival c cmd ≡ stops (tell true (fails (lost_at i cmd (record { card = here; data' = d })) wrong_parameters))
  unfolding arrival past_step1 step4 step5
  stops-there = ap (past_step1 cmd) same ∙ rw (form, name, over, staged, opens, unlisted)

  -- in stage 2 an error gives nothing up
  lost-same : x.channel.stage ≡ 2 → lost_at i cmd (record { card = here; data' = d }) ≡ here
  lost-same in2 = rw ((row_lawful i).begins over here) ((row_lawful i).fails over (p1_of cmd) here in2)

  pub stops-sealed : x.channel.stage ≡ 2 → arrival c cmd ≡ stops (sealed (fails here wrong_parameters))
  stops-sealed in2 =
      stops-there
      ∙ ap (λ (y : Card). stops (tell true (fails y wrong_parameters))) (lost-same in2)
      ∙ ap stops (sealed-in-2 true (fails here wrong_parameters) refl in2)

-- ---- ANSWER to a command that a step stops
pub answer-stops : (c : Card) (cmd s : List ℕ) (room : ℕ) (t : Outgoing) → is_sound c ≡ true → 258 ≤ room → arrival c cmd ≡ stops t
    → answer_out c cmd s room ≡ answered t
unfolding answer_out decide suits
answer-stops c cmd s room t sound fits e = rw (sound, le-ltb room 258 fits, e)
