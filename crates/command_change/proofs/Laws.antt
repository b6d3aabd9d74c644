-- CHANGE answers no data, whatever the card and the data.
-- Assumes nothing.
use mathlib.Core.Path.{◌≡◌, refl}
use mathlib.Core.List.{List, []}
use Prim.Native.Nat.{ℕ}
use Rattle.card.specs.declared.Card.{Card}
use Rattle.rules.specs.declared.SecretKind.{SecretKind}
use Rattle.rules.specs.declared.SecretKind.TheVariants as secret
use Rattle.rules.specs.Commands.{change_reply}

pub change-empty : (c : Card) (which : SecretKind) (d : List ℕ) → (change_reply c which d).response ≡ []
unfolding change_reply
change-empty c secret.Pin d = refl
change-empty c secret.Puk d = refl
change-empty c secret.Pairing d = refl
