-- The slots are read one by one. Invariant: those passed are the first of `slots_from`.
-- Assumes nothing.
use Rattle.record_spans.proofs.PlaceFacts.{slots-from-next, slot_at}
use Rattle.std.proofs.Common.{rules}
use mathlib.Core.Path.{◌≡◌, refl, sym, ap, ◌∙◌}
use Prim.Native.Nat.{ℕ, ◌*◌}
use native.Mathlib.Omega.{arith}
use lib.ListN.{length-set}
use lib.Seq.{take_all}
use Rattle.card.specs.Sizes.{slot_bytes, slot_count}
use Rattle.record_rules.specs.Parse.{slots_from}
use Rattle.record_spans.proofs.slots_from.Goals as goal

pub loop-i-init : goal.loop-i-init
unfolding slots_from
loop-i-init c = (search rules, (refl, refl))

pub loop-i-preserved : goal.loop-i-preserved
loop-i-preserved c = (c.loop-i.invariant.0, (simp length-set c.loop-i.invariant.1.0, slots-from-next c.args.x c.loop-i.slots c.loop-i.i _ (omega arith) c.loop-i.invariant.1.1 (slot_at c.args.x c.fill.new.dst (slot_bytes * c.loop-i.i) (slot_bytes * slot_count) c.loop-i.invariant.0 c.fill.ensures)))

pub returns : goal.returns
returns c = let e : c.loop-i.i ≡ slot_count = omega arith in sym (take_all c.loop-i.i c.loop-i.slots (omega arith)) ∙ c.loop-i.invariant.1.1 ∙ ap (λ (n : ℕ). slots_from n c.args.x) e
