-- From what the code found and wrote to what is promised of the planner. Lengths are in bytes.
-- Assumes nothing.
use mathlib.Core.Path.{◌≡◌, sym, ap, ◌∙◌}
use mathlib.Core.List.{List}
use Prim.Native.Nat.{ℕ, ◌≤◌}
use lib.ListN.{length}
use borrow.Author.Tests.{eqb-true, leb-true}
use Rattle.template_rules.specs.Writing.{Wrote}
use Rattle.card.specs.declared.Card.{Card}
use Rattle.card.specs.State.{zeros}
use Rattle.card.proofs.Tests.{both}
use Rattle.card.proofs.Zeros.{zeros-left}
use Rattle.plan_rules.specs.declared.Planned.{Planned}
use Rattle.plan_rules.specs.Plan.{accepts, plan_refusal, Plans}
use Rattle.plan_make.specs.declared.Needs.{Needs}
use Rattle.plan_make.specs.Make.{needs_of, plan_of}
use Rattle.plan_make.proofs.Planning.{Able, able, plan-accepted}
use Rattle.plan_make.proofs.Written.{wrote-taken, wrote-left, not-refused, tries-byte}

module _ (c : Card) (pin current pinless : List ℕ) (x : ℕ) (e : x ≡ plan_refusal c pin current pinless) (z : x ≡ 0) where
  asked : Able c pin current pinless
  asked = able c pin current pinless (not-refused c pin current pinless (sym e ∙ z)).1

  -- the PIN and the paths have the lengths that the buffer is made for
  pub lengths : (length pin ≡ 6) × (length current ≤ 40) × (length pinless ≤ 40)
  lengths =
      (eqb-true (length pin) 6 (both _ _ asked.digits).0, leb-true (length current) 40 (both _ _ asked.derives).0, leb-true (length pinless) 40 (both _ _ asked.sets).0)

  pub proposed : (n : Needs) (count : ℕ) (b : List ℕ) → n ≡ needs_of c.pins c.keys current pinless
      → Wrote (plan_of n pin current pinless) 0 count (zeros 101) b
      → Plans c pin current pinless (record { refusal = x; count = count; bytes = b })
  proposed n count b f w = record {
    refusal = e;
    refused = λ h. absurd (h z);
    accepted = λ _.
        ap (λ (t : List ℕ). accepts c t current pinless) (wrote-taken w ∙ ap (λ (m : Needs). plan_of m pin current pinless) f)
        ∙ plan-accepted c pin current pinless asked
        (tries-byte c (not-refused c pin current pinless (sym e ∙ z)).0 asked.initialised);
    most = w.fits;
    after = wrote-left w ∙ zeros-left 101 count;
  }
