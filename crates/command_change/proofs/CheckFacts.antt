-- What CHANGE's checks say of the data. Lengths are in bytes.
-- Assumes nothing.
use mathlib.Core.Path.{◌≡◌, subst}
use mathlib.Core.Bool.{true}
use mathlib.Core.List.{List}
use Prim.Native.Nat.{ℕ}
use lib.ListN.{length}
use borrow.Author.Tests.{eqb-true}
use Rattle.card.specs.declared.Pins.{Pins}
use Rattle.card.proofs.Tests.{both}
use Rattle.rules.specs.declared.SecretKind.{SecretKind}
use Rattle.rules.specs.declared.SecretKind.TheVariants as secret
use Rattle.rules.specs.Words.{Hold}
use Rattle.rules.specs.Commands.{is_secret, change_checks}

-- ---- change_checks: the data have the length of the secret
abbrev pub secret-bytes : SecretKind → ℕ
secret-bytes secret.Pin = 6
secret-bytes secret.Puk = 12
secret-bytes secret.Pairing = 32

secret-long : (which : SecretKind) (d : List ℕ) → is_secret which d ≡ true → length d ≡ secret-bytes which
secret-long secret.Pin d e = eqb-true _ _ (both _ _ e).0
secret-long secret.Puk d e = eqb-true _ _ (both _ _ e).0
secret-long secret.Pairing d e = eqb-true _ _ e

pub change-long : (p : Pins) (which known : SecretKind) (d : List ℕ) → which ≡ known → Hold (change_checks p which d)
    → length d ≡ secret-bytes known
unfolding change_checks
change-long p which known d e h = subst (λ (k : SecretKind). length d ≡ secret-bytes k) e (secret-long which d h.1.0)
