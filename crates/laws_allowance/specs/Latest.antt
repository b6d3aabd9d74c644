-- What `from_latest` gives, said without recursion: the list is cut at a call that the test takes, and it takes none after that one.
use Rattle.std.specs.Prelude.{◌≡◌, Bool, true, false, List, ◌∷◌, ◌++◌}
use Rattle.card.specs.Slots.{some_of}
use Rattle.laws_allowance.specs.Events.{Event}
use Rattle.laws_allowance.specs.History.{from_latest}

pub record Latest (t : Event → Bool) (events : List Event) : Type 0 where
  pub before : List Event
  pub latest : Event
  pub after : List Event
  pub cut : events ≡ before ++ (latest ∷ after)
  pub taken : t latest ≡ true
  pub last : some_of t after ≡ false
  pub is : from_latest t events ≡ latest ∷ after
