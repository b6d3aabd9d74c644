-- `fill` meets its contract: one more byte is written, and the next is by `step` more.
-- Assumes nothing.
use Rattle.std.proofs.Common.{◌≡◌, ◌+◌, ◌*◌, ◌<◌, length, sym, refl, ◌∙◌}
use native.Mathlib.Numerals.{add-one}
use native.Mathlib.Omega.{arith}
use native.Mathlib.Nat.{suc-mul}
use Rattle.octets.proofs.Lists.{length-tabulate, get_d_tabulate}
use Rattle.octets.proofs.Filling.{filled_none, filled-one}
use Rattle.text_fill.proofs.fill.Goals as goal

pub loop-x-init : goal.loop-x-init
loop-x-init c = record { filled = filled_none refl (length-tabulate _ _); next = omega arith }

pub loop-x-preserved : goal.loop-x-preserved
loop-x-preserved c = let a = c.args in
    let l = c.loop-x in
    let more : (l.x-index + 1) * a.step ≡ l.x-index * a.step + a.step = rw add-one (suc-mul l.x-index a.step) in
    let below : l.x-index < length a.buf.now = omega arith in
    record {
      filled = filled-one _ l.invariant.filled below (l.invariant.next ∙ sym (get_d_tabulate _ _ l.x-index below));
      next = rw more (omega (arith, l.invariant.next));
    }
