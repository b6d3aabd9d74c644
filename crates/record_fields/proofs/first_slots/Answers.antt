-- The content of the first slots. Invariant: what is written is the content of the slots passed.
-- Assumes nothing.
use Rattle.std.proofs.Common.{rules}
use mathlib.Core.Path.{◌≡◌, refl, sym, ap, ◌∙◌}
use Prim.Native.Nat.{ℕ, ◌*◌}
use native.Mathlib.Omega.{arith}
use lib.ListN.{take}
use Rattle.card.specs.Sizes.{slot_bytes}
use Rattle.record_rules.specs.Fields.{slots_bytes}
use Rattle.record_fields.proofs.Chain.{slots_next}
use Rattle.record_fields.proofs.first_slots.Goals as goal

pub loop-i-init : goal.loop-i-init
unfolding slots_bytes
loop-i-init c = (search rules, (refl, refl))

pub loop-i-preserved : goal.loop-i-preserved
loop-i-preserved c = (c.loop-i.invariant.0, (omega arith, slots_next c.args.slots c.loop-i.i _ c.loop-i.out c.put_slot.new.buf (omega arith) c.put_slot.ensures.0 (omega arith) c.loop-i.invariant.1.1 c.put_slot.ensures.1))

pub returns : goal.returns
returns c = let e : c.loop-i.i ≡ c.args.count = omega arith in
    ap (λ (n : ℕ). take (slot_bytes * n) c.loop-i.out) (sym e) ∙ c.loop-i.invariant.1.1
    ∙ ap (λ (n : ℕ). slots_bytes (take n c.args.slots)) e
