-- `run` meets its contract: the part that was lent to `fill` comes back with the bytes that are meant.
-- Assumes nothing.
use mathlib.Core.Path.{◌≡◌, refl}
use Prim.Native.Nat.{◌+◌, ◌*◌, ◌-◌, ◌%◌}
use native.Mathlib.Omega.{arith}
use lib.ListN.{length}
use Rattle.octets.proofs.Lists.{length-tabulate}
use Rattle.text_fill.specs.Steps.{stepped}
use Rattle.soft_word_bytes.proofs.PieceFacts.{lent-put, too_many, put}
use Rattle.soft_word_bytes.proofs.run.Goals as goal

pub returns-then-out-len : goal.returns-then-out-len
returns-then-out-len c = let a = c.args in
    too_many (length a.out.now - a.len) (stepped a.first a.step a.n) refl (omega (arith, length-tabulate a.n (λ k. (a.first + k * a.step) % 256)))

pub returns : goal.returns
returns c = let a = c.args in
    let long : length (stepped a.first a.step a.n) ≡ a.n = length-tabulate a.n (λ k. (a.first + k * a.step) % 256) in
    put (length a.out.now - a.len) (stepped a.first a.step a.n) refl
    (omega (arith, long)) (omega (arith, long))
    (lent-put a.len a.n a.out.now (omega arith) (stepped a.first a.step) long c.fill.ensures)
