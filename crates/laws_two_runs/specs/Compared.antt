-- What a comparison has to do with the answer (RULES 6.3): where a command compares the PIN or the PUK, its answer is the one that its rule has for
-- right or the one that it has for wrong. Every length is in bytes.
use Rattle.std.specs.Prelude.{ℕ, ◌≡◌, Bool, true, List, take, drop}
use Rattle.std.proofs.Math.Option.{some}
use Rattle.card.specs.declared.Card.{Card}
use Rattle.rules.specs.Words.{Reply}
use Rattle.rules.specs.Supplies.{no_supply}
use Rattle.rules.specs.Rules.{Secret, pin, puk, right_by, no_fault}
use Rattle.rules.specs.Commands.{verify_reply, unblock_reply}
use Rattle.rules.specs.Channel.{with_mac, Outgoing, tell}
use Rattle.rules.specs.Steps.{step1, data_of, opened_by, decide}
use Rattle.rules.specs.Comparison.{Comparison}

-- the reply of the command that compares this secret, by how that came out: VERIFY's; UNBLOCK's, with the bytes after the first 12 as new PIN
abbrev pub reply_by : Secret → Bool → Card → List ℕ → Reply
reply_by pin right c d = verify_reply right c
reply_by puk right c d = unblock_reply right c (drop 12 d)

-- a command that makes the comparison x: its field, what that opens to, whether that is the secret of the card that the call was given; and the
-- answer, which is the reply for how it came out, told over the channel. No supply is read
pub record Compared (c : Card) (cmd : List ℕ) (x : Comparison) : Type 0 where
  pub field : List ℕ
  pub data' : List ℕ
  pub form : data_of cmd ≡ some field
  pub opens : opened_by (step1 cmd c) cmd field ≡ some data'
  pub right : x.right ≡ right_by x.of c.pins data'
  pub told : Outgoing
  pub tells : told ≡ tell true (reply_by x.of x.right (with_mac (step1 cmd c) (take 16 field)) data')
  pub decides : decide c cmd ≡ record { supply = no_supply; data' = data'; answer = λ _. told; fault_offset = no_fault }
