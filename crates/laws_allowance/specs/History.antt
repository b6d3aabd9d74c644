-- Counts over what the calls of a history did, and what is claimed of them: they read nothing but the events.
use Rattle.std.specs.Prelude.{ℕ, ◌+◌, ◌≡◌, Bool, true, false, ◌&&◌, ◌||◌, not, cond, List, [], ◌∷◌, drop}
use Rattle.std.proofs.Math.Option.{Option, none, some}
use Rattle.card.specs.declared.Card.{Card}
use Rattle.card.specs.Slots.{some_of}
use Rattle.card.specs.Sound.{is_sound}
use Rattle.rules.specs.declared.SecretKind.{SecretKind}
use Rattle.rules.specs.declared.SecretKind.TheVariants as secret
use Rattle.rules.specs.declared.Command.{Command}
use Rattle.rules.specs.declared.Command.TheVariants as command
use Rattle.rules.specs.Rules.{Secret, pin, puk}
use Rattle.rules.specs.Steps.{is_initialised}
use Rattle.rules.specs.Comparison.{Comparison}
use Rattle.laws_two_runs.specs.Runs.{Call, end_of}
use Rattle.laws_allowance.specs.Events.{Event, succeeded_at, events_of}

-- ---- a comparison of this secret that came out right, or wrong
abbrev pub is_of : Secret → Secret → Bool
is_of pin pin = true
is_of pin puk = false
is_of puk pin = false
is_of puk puk = true

abbrev pub is_right : Secret → Option Comparison → Bool
is_right s none = false
is_right s (some x) = is_of s x.of && x.right

abbrev pub is_wrong : Secret → Option Comparison → Bool
is_wrong s none = false
is_wrong s (some x) = is_of s x.of && not x.right

-- ---- the secrets that a command sets where it gives 9000: INIT both, CHANGE the one that its P1 names, and the pairing secret is neither
abbrev pub changed : SecretKind → List Secret
changed secret.Pin = pin ∷ []
changed secret.Puk = puk ∷ []
changed secret.Pairing = []

abbrev pub set_by : Command → List Secret
set_by command.Select = []
set_by command.Init = pin ∷ puk ∷ []
set_by (command.Open i) = []
set_by command.Mutual = []
set_by command.PairFirst = []
set_by command.PairFinal = []
set_by (command.Unpair i) = []
set_by (command.Status which) = []
set_by command.Verify = []
set_by (command.Change which) = changed which
set_by command.Unblock = []
set_by (command.Load form) = []
set_by command.Derive = []
set_by command.Remove = []
set_by command.SetPinless = []
set_by command.Sign = []
set_by (command.Export which what) = []
set_by command.SetNdef = []
set_by (command.Mnemonic x) = []

abbrev pub is_among : Secret → List Secret → Bool
is_among s [] = false
is_among s (x ∷ more) = is_of s x || is_among s more

abbrev pub is_set : Secret → Option Command → Bool
is_set s none = false
is_set s (some k) = is_among s (set_by k)

-- ---- what restarts each count: INIT, the PIN changed or right, the PUK right; INIT, the PUK changed or right
abbrev pub restarts : Secret → Event → Bool
restarts pin e = is_set pin e.succeeded || (is_right pin e.compared || is_right puk e.compared)
restarts puk e = is_set puk e.succeeded || is_right puk e.compared

abbrev pub wrong : Secret → Event → Bool
wrong s e = is_wrong s e.compared

-- ---- the latest call that this test takes, and those after it; nothing where it takes none
unfoldable pub from_latest : (Event → Bool) → List Event → List Event
from_latest t [] = []
from_latest t (e ∷ more) = cond (some_of t more) (from_latest t more) (cond (t e) (e ∷ more) [])

unfoldable pub count_of : (Event → Bool) → List Event → ℕ
count_of t [] = 0
count_of t (e ∷ more) = cond (t e) 1 0 + count_of t more

-- the wrong comparisons of this secret after the latest call that restarts its count
abbrev pub guesses : Secret → List Event → ℕ
guesses s events = count_of (wrong s) (drop 1 (from_latest (restarts s) events))

-- ---- a history: a sound card that is not initialised, a call that gives 9000 for INIT on it, and then any calls
pub record History : Type 0 where
  pub card : Card
  pub sound : is_sound card ≡ true
  pub fresh : is_initialised card ≡ false
  pub first : Call
  pub init : succeeded_at card first ≡ some command.Init
  pub calls : List Call

abbrev pub events_in : History → List Event
events_in h = events_of h.card (h.first ∷ h.calls)

abbrev pub card_after : History → Card
card_after h = end_of h.card (h.first ∷ h.calls)

-- a card that a history leads to
pub record Historic (c : Card) : Type 0 where
  pub history : History
  pub ends : card_after history ≡ c

-- ---- what is claimed of tries: guesses and tries left are as many as there were
pub record Allowance (h : History) : Type 0 where
  pub pins : guesses pin (events_in h) + (card_after h).pins.pin_tries ≡ 3
  pub puks : guesses puk (events_in h) + (card_after h).pins.puk_tries ≡ 5
