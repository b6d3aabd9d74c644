-- The free slots as the library counts them, and the key UID as SELECT answers it.
-- Assumes nothing.
use mathlib.Core.Path.{◌≡◌, refl, ap, ◌∙◌}
use mathlib.Core.Bool.{Bool, true, false, cond}
use mathlib.Core.List.{List, [], ◌∷◌}
use Prim.Native.Nat.{ℕ, ◌+◌, ◌≤◌}
use native.Mathlib.Omega.{arith}
use lib.ListN.{length, take}
use lib.Seq.{take_all}
use Rattle.std.specs.List.{count_by}
use Rattle.std.proofs.lemmas.List.Sums.{sum_by-cons}
use Rattle.card.specs.declared.Slot.{Slot}
use Rattle.card.specs.declared.Keys.{Keys}
use Rattle.card.specs.State.{key_uid}
use Rattle.card.specs.Slots.{is_zero, is_free}
use Rattle.rules.specs.Commands.{free_slots}
use Rattle.command_select.specs.Parts.{key_uid_bytes}

-- ---- free_slots: the free slots are those that the library counts
pub counted_free : (s : List Slot) → count_by is_free s ≡ free_slots s
unfolding free_slots
counted_free [] = refl
counted_free (x ∷ s) =
    sum_by-cons (λ (y : Slot). cond (is_free y) 1 0) x s ∙ ap (λ n. cond (is_free x) 1 0 + n) (counted_free s) ∙ by_flag (is_free x)
  where
    by_flag : (b : Bool) → cond b 1 0 + free_slots s ≡ cond b (1 + free_slots s) (free_slots s)
    by_flag true = refl
    by_flag false = omega arith

-- ---- key_uid
pub key-uid-is : (k : Keys) (n : ℕ) → length k.uid ≡ 32 → n ≡ key_uid_bytes k.kind → take n k.uid ≡ key_uid k
key-uid-is k n l e = ap (λ (m : ℕ). take m k.uid) e ∙ by_flag (is_zero k.kind)
  where
    by_flag : (b : Bool) → take (cond b 0 32) k.uid ≡ cond b [] k.uid
    by_flag true = refl
    by_flag false = take_all 32 k.uid (omega arith)

pub key-uid-short : (kind : ℕ) → key_uid_bytes kind ≤ 32
key-uid-short kind = by_flag (is_zero kind)
  where
    by_flag : (b : Bool) → cond b 0 32 ≤ 32
    by_flag true = omega arith
    by_flag false = omega arith
