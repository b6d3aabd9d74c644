-- The rules of a sound count one by one, which a sum keeps, and how large its numbers are. Assumes nothing.
use mathlib.Core.Path.{◌≡◌, sym, subst}
use mathlib.Core.Bool.{true, ◌&&◌}
use mathlib.Core.List.{List, [], ◌∷◌}
use Prim.Native.Nat.{ℕ, zero, suc, ◌+◌, ◌*◌, ◌≤◌}
use native.Mathlib.Omega.{arith}
use lib.Dec.{eqb, leb}
use lib.ListN.{length, get_or}
use borrow.Author.Tests.{eqb-true, leb-true, eq-eqb, le-leb}
use Rattle.octets.proofs.Lists.{tabulated}
use Rattle.card.proofs.Tests.{both}
use Rattle.stock_rules.specs.Counts.{number_count, read, pre_initialised, of_kinds, of_tries, slots_used, fed, fed_most, slots_most, is_count, plus}
use Rattle.stock_rules.proofs.PlusFacts.{get_d-plus}

-- ---- is_count
pub record CountRules (c : List ℕ) : Type 0 where
  pub kinds : pre_initialised c + of_kinds c ≡ read c
  pub tries : of_tries c ≡ of_kinds c
  pub few : fed c ≤ fed_most
  pub slots : slots_used c ≤ slots_most * of_kinds c

pub count-rules : (c : List ℕ) → is_count c ≡ true → CountRules c
unfolding is_count
count-rules c e =
    let l = both (eqb (pre_initialised c + of_kinds c) (read c) && eqb (of_tries c) (of_kinds c) && leb (fed c) fed_most) _ e in
    let t = both (eqb (pre_initialised c + of_kinds c) (read c) && eqb (of_tries c) (of_kinds c)) _ l.0 in
    let k = both (eqb (pre_initialised c + of_kinds c) (read c)) _ t.0 in
    record { kinds = eqb-true _ _ k.0; tries = eqb-true _ _ k.1; few = leb-true _ _ t.1; slots = leb-true _ _ l.1 }

pub count-sound : (c : List ℕ) → CountRules c → is_count c ≡ true
unfolding is_count
count-sound c r = rw (eq-eqb _ _ r.kinds, eq-eqb _ _ r.tries, le-leb _ _ r.few) (le-leb _ _ r.slots)

-- ---- plus keeps the rules, if the records fed are not too many
pub fed-plus : (c d : List ℕ) → fed (plus c d) ≡ fed c + fed d
fed-plus c d = omega (arith, get_d-plus c d 0, get_d-plus c d 1)

pub plus-rules : (c d : List ℕ) → CountRules c → CountRules d → fed c + fed d ≤ fed_most → CountRules (plus c d)
plus-rules c d r s h = record {
  kinds = omega (arith, r.kinds, s.kinds, get_d-plus c d 0, get_d-plus c d 2, more-kinds);
  tries = omega (arith, r.tries, s.tries, get_d-plus c d 6, get_d-plus c d 7, get_d-plus c d 8, get_d-plus c d 9, more-kinds);
  few = omega (arith, fed-plus c d);
  slots = omega (arith, r.slots, s.slots, get_d-plus c d 10, more-kinds);
}
  where
    more-kinds : of_kinds (plus c d) ≡ of_kinds c + of_kinds d
    more-kinds = omega (arith, get_d-plus c d 3, get_d-plus c d 4, get_d-plus c d 5)

-- ---- no number of a sound count is larger than all the slots could be
abbrev numbers_most : ℕ
numbers_most = slots_most * fed_most

abbrev Within : List ℕ → Type 0
Within [] = Unit {0}
Within (x ∷ c) = (x ≤ numbers_most) × Within c

within-at : (c : List ℕ) → Within c → (i : ℕ) → get_or c i 0 ≤ numbers_most
within-at [] w i = omega arith
within-at (x ∷ c) w zero = w.0
within-at (x ∷ c) w (suc i) = within-at c w.1 i

pub number-most : (c : List ℕ) → length c ≡ number_count → CountRules c → (i : ℕ) → get_or c i 0 ≤ numbers_most
number-most c l r = within-at c (subst Within (sym (tabulated number_count c l))
    (omega arith, (omega arith, (omega arith, (omega arith, (omega arith, (omega arith, (omega arith, (omega arith, (omega arith, (omega arith, (omega arith, tt))))))))))))
