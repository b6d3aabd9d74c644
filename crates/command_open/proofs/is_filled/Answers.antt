-- By cases on whether the index is a slot's.
-- Assumes nothing.
use Rattle.std.proofs.Common.{rules}
use mathlib.Core.Path.{◌≡◌, sym, ap, ◌∙◌}
use mathlib.Core.Bool.{not}
use Prim.Native.Nat.{ℕ}
use native.Mathlib.Omega.{arith}
use lib.ListN.{length, get_or}
use Rattle.card.specs.declared.Slot.{Slot}
use Rattle.card.specs.State.{slot_count, free_slot}
use Rattle.card.specs.Slots.{is_free}
use Rattle.command_open.proofs.SlotFacts.{get_d_any, get_d_past}
use Rattle.command_open.proofs.is_filled.Goals as goal

pub returns-then-i-ge-SLOTS : goal.returns-then-i-ge-SLOTS
returns-then-i-ge-SLOTS c =
    let l : length c.args.slots ≡ slot_count = search rules in
    sym (ap (λ (s : Slot). not (is_free s)) (get_d_past c.args.slots c.args.slot free_slot (omega (arith, l, c.wide-i.ensures, c.if-i-ge-SLOTS.true))))

pub returns : goal.returns
returns c =
    let l : length c.args.slots ≡ slot_count = search rules in
    ap (λ (s : Slot). not (is_free s))
    (ap (λ (i : ℕ). get_or c.args.slots i _) c.wide-i.ensures
    ∙ get_d_any c.args.slots c.args.slot _ free_slot (omega (arith, l, c.wide-i.ensures, c.if-i-ge-SLOTS.false)))
