-- The path of some bytes, as the code makes it. Every length is in bytes.
-- Assumes nothing.
use mathlib.Core.Path.{◌≡◌, ap}
use mathlib.Core.List.{List}
use Prim.Native.Nat.{ℕ}
use lib.ListN.{length}
use Rattle.octets.specs.Bytes.{overwrite}
use Rattle.card.specs.declared.Path.{Path}
use Rattle.card.specs.State.{zeros, path_of}
use Rattle.card.proofs.Zeros.{zeros-under}

-- ---- path_of: the bytes written into zeros from the start
pub path-put : (d b : List ℕ) → b ≡ overwrite (zeros 40) 0 d → ◌≡◌ {A = Path} (record { len = length d; bytes = b }) (path_of d)
path-put d b e = ap {B = Path} (λ x. record { len = length d; bytes = x }) (zeros-under 40 d b e)
