-- Demand 3: the two runs (RULES 11.3), one claim about the list of calls; that its words are exact, those about what a run shows, those about
-- comparisons (RULES 6.3) and those about cards that agree; and that it is not empty. The definitions of calls, runs and premise are those of
-- crate `laws_two_runs`, Runs, and those of comparisons are the rulebook's, Comparison.
use Rattle.std.specs.Prelude.{ℕ, ◌≤◌, ◌≡◌, Bool, true, false, List, [], ◌∷◌, ◌↔◌}
use Rattle.std.proofs.Math.Option.{Option, none, some}
use Rattle.card.specs.declared.Card.{Card}
use Rattle.card.specs.State.{fresh_of, with_secrets}
use Rattle.card.specs.Slots.{all_of}
use Rattle.card.specs.Sound.{is_sound, is_digit}
use Rattle.rules.specs.Words.{Reply}
use Rattle.rules.specs.Rules.{Secret, pin, puk}
use Rattle.rules.specs.Engine.{answered, answer_out}
use Rattle.rules.specs.Comparison.{Comparison, comparison}
use Rattle.laws_two_runs.specs.Comparisons.{Comparisons}
use Rattle.laws_two_runs.specs.Compared.{reply_by, Compared}
use Rattle.laws_two_runs.specs.Runs.{Call, comparison_at, seen_at, next_at, end_of, Agree, Premise, SameRuns}
use Rattle.laws_two_runs.specs.Shown.{Shown}

-- ---- two replies that say the same and leave cards that agree
pub record SameReply (r s : Reply) : Type 0 where
  pub status : r.status ≡ s.status
  pub response : r.response ≡ s.response
  pub card : Agree r.card s.card

-- ---- what keeps the claim from being empty
-- some list of calls leads from FRESH to a sound, initialised card in this stage and with this kind of key
pub record Reaches (stage kind : ℕ) : Type 0 where
  pub uid : List ℕ
  pub key : List ℕ
  pub calls : List Call
  pub sound : is_sound (end_of (fresh_of uid key) calls) ≡ true
  pub initialised : (end_of (fresh_of uid key) calls).initialised ≡ 1
  pub stage' : (end_of (fresh_of uid key) calls).channel.stage ≡ stage
  pub kind' : (end_of (fresh_of uid key) calls).keys.kind ≡ kind

-- the comparisons that a run makes, call by call
unfoldable pub comparisons_of : Card → List Call → List (Option Comparison)
comparisons_of c [] = []
comparisons_of c (k ∷ more) = comparison_at c k ∷ comparisons_of (next_at c k) more

-- a comparison of this secret that comes out so
abbrev pub made : Secret → Bool → Option Comparison
made of right = some (record { of = of; right = right })

-- a PIN or a PUK
abbrev pub secret_in : Secret → Card → List ℕ
secret_in pin c = c.pins.pin
secret_in puk c = c.pins.puk

-- two cards that differ in this secret, a list of calls that meet the premise, and the comparisons that the list makes
pub record Meets (other : Secret) (comparisons : List (Option Comparison)) : Type 0 where
  pub card : Card
  pub card' : Card
  pub calls : List Call
  pub premise : Premise card card' calls
  pub compared : comparisons_of card calls ≡ comparisons
  pub differ : secret_in other card ≡ secret_in other card' → ⊥

pub record Secrecy : Type 0 where
  -- the claim
  pub runs : (calls : List Call) (c d : Card) → Premise c d calls → SameRuns c d calls
  -- what a run shows at a call is what the contracts of ASK, ANSWER and RESET say, and all of that but PIN and PUK of the card in it
  pub shows : Shown
  -- cards agree exactly if one is the other with another PIN and PUK
  pub agreement : (c d : Card) → Agree c d ↔ ((p : List ℕ) × ((q : List ℕ) × (with_secrets p q c ≡ d)))
  -- which commands make a comparison, and when it comes out right
  pub comparisons : (c : Card) (cmd : List ℕ) → Comparisons c cmd
  -- where a call makes none, nothing that it shows and nothing that it passes on depends on PIN and PUK
  pub nonemade : (c d : Card) (k : Call) → is_sound c ≡ true → is_sound d ≡ true → Agree c d → comparison_at c k ≡ none
      → (seen_at c k ≡ seen_at d k) × Agree (next_at c k) (next_at d k)
  -- where a command makes one, what the rules tell is the command's reply for right or the one for wrong; ANSWER gives that on a sound card with
  -- room enough, whatever the supply; and neither of the two depends on PIN and PUK, but for those that the card keeps
  pub onemade : (c : Card) (cmd : List ℕ) (x : Comparison) → comparison c cmd ≡ some x → Compared c cmd x
  pub onetold : (c : Card) (cmd supply : List ℕ) (room : ℕ) (x : Comparison) → is_sound c ≡ true → 258 ≤ room → (r : Compared c cmd x)
      → answer_out c cmd supply room ≡ answered r.told
  pub blind : (of : Secret) (right : Bool) (p q : List ℕ) (c : Card) (d : List ℕ)
      → SameReply (reply_by of right c d) (reply_by of right (with_secrets p q c) d)
  -- any digits may be PIN and PUK of a sound initialised card: the result is sound and agrees with it
  pub digits : (c : Card) (p q : List ℕ) → all_of is_digit p ≡ true → all_of is_digit q ≡ true → is_sound c ≡ true → c.initialised ≡ 1
      → (is_sound (with_secrets p q c) ≡ true) × Agree c (with_secrets p q c)
  -- each stage and each kind of key is reached
  pub stage0 : Reaches 0 0
  pub stage1 : Reaches 1 0
  pub stage2 : Reaches 2 0
  pub kind1 : Reaches 2 1
  pub kind2 : Reaches 2 2
  -- the premise is met with comparisons of each outcome: a wrong PIN, once and three times, the right PIN, a wrong PUK, the right PUK
  pub wrongpin : Meets pin (made pin false ∷ [])
  pub wrongpins : Meets pin (made pin false ∷ made pin false ∷ made pin false ∷ [])
  pub rightpin : Meets puk (made pin true ∷ [])
  pub wrongpuk : Meets puk (made puk false ∷ [])
  pub rightpuk : Meets pin (made puk true ∷ [])
