-- A length past the room is cut to it: taking more bytes than there are takes all.
-- Assumes nothing.
use mathlib.Core.Path.{sym, ap, ◌∙◌}
use Prim.Native.Nat.{ℕ}
use native.Mathlib.Omega.{arith}
use lib.ListN.{take}
use lib.Seq.{take_all}
use Rattle.plan_steps.proofs.in_use.Goals as goal

pub returns-then-used-le-PATH_MAX_BYTES : goal.returns-then-used-le-PATH_MAX_BYTES
returns-then-used-le-PATH_MAX_BYTES c = record { most = omega arith; same = λ s h. ap (λ (n : ℕ). take n s) c.wide-used.ensures }

pub returns : goal.returns
returns c = record {
  most = omega arith;
  same = λ s h. take_all 40 s (omega (arith, h)) ∙ sym (take_all c.args.len s (omega (arith, h, c.wide-used.ensures)));
}
