-- The tap record of some bytes, as the code makes it. Every length is in bytes.
-- Assumes nothing.
use mathlib.Core.Path.{◌≡◌, ap}
use mathlib.Core.List.{List}
use Prim.Native.Nat.{ℕ}
use lib.ListN.{length}
use Rattle.octets.specs.Bytes.{overwrite}
use Rattle.card.specs.declared.Tap.{Tap}
use Rattle.card.specs.Sizes.{tap_most_bytes}
use Rattle.card.specs.State.{zeros, tap_of}
use Rattle.card.proofs.Zeros.{zeros-under}

-- ---- tap_of: the bytes written into zeros from the start
pub tap-put :
    (d b : List ℕ)
    → b ≡ overwrite (zeros tap_most_bytes) 0 d
    → ◌≡◌ {A = Tap} (record { len = length d; bytes = b }) (tap_of d)
tap-put d b e = ap {B = Tap} (λ x. record { len = length d; bytes = x }) (zeros-under tap_most_bytes d b e)
