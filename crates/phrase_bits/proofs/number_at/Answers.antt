-- The three bytes hold the 11 bits at the place (`eleven-at`).
-- Assumes nothing.
use mathlib.Core.Path.{ap, sym, ◌∙◌}
use Prim.Native.Nat.{ℕ, ◌-◌, ◌*◌, ◌/◌, ◌%◌, ◌^◌}
use native.Mathlib.Omega.{arith}
use Rattle.phrase_bits.proofs.Windows.{eleven-at}
use Rattle.phrase_bits.proofs.number_at.Goals as goal

pub returns : goal.returns
returns c = let t = c.three_bytes-three.ensures in
    let place = c.args.k * 11 in (
      c.bits_at.ensures
          ∙ ap (λ (x : ℕ). x / 2 ^ (13 - place % 8) % 2 ^ 11) t.0
          ∙ sym (eleven-at c.args.s.now place (omega arith) t.1.0 t.1.1.0 t.1.1.1),
      omega (arith, c.bits_at.ensures),
    )
