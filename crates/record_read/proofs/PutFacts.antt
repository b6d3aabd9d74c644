-- What was put from the start of a buffer is taken back. Assumes nothing.
use mathlib.Core.Path.{◌≡◌, ap₂, ◌∙◌}
use mathlib.Core.List.{List}
use Prim.Native.Nat.{ℕ, ◌≤◌}
use native.Mathlib.Omega.{arith}
use lib.ListN.{length, take}
use Rattle.octets.proofs.Lists.{take-overwrite}
use Rattle.record_rules.specs.Fields.{Field, encode_all}
use Rattle.record_fields.specs.Put.{Put}

pub put-taken : {fs : List Field} {b : List ℕ} {n : ℕ} {a : List ℕ} → Put fs 0 b n a → n ≤ length b → take n a ≡ encode_all fs
put-taken {fs} {b} {n} {a} p h =
    ap₂ (λ (k : ℕ) (l : List ℕ). take k l) p.place p.bytes ∙ take-overwrite b 0 (encode_all fs) (omega (arith, p.place))
