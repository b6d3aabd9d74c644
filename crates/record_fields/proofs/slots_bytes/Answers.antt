-- All the slots: the first ones, as many as there are.
-- Assumes nothing.
use Rattle.std.proofs.Common.{rules}
use mathlib.Core.Path.{◌≡◌, sym, ap, ◌∙◌}
use Prim.Native.Nat.{◌*◌}
use native.Mathlib.Omega.{arith}
use lib.ListN.{length}
use lib.Seq.{take_all}
use Rattle.card.specs.Sizes.{slot_bytes, slot_count}
use Rattle.record_rules.specs.Fields.{slots_bytes}
use Rattle.record_fields.proofs.slots_bytes.Goals as goal

pub returns : goal.returns
returns c = let l : length c.first_slots.result ≡ slot_bytes * slot_count = search rules in
    let k : length c.args.slots ≡ slot_count = search rules in
    sym (take_all (slot_bytes * slot_count) c.first_slots.result (omega (arith, l)))
    ∙ c.first_slots.ensures
    ∙ ap slots_bytes (take_all slot_count c.args.slots (omega (arith, k)))
