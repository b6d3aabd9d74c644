-- A pending pairing has a free slot, so that the final step of PAIR always finds one.
-- Assumes nothing.
use mathlib.Core.Path.{◌≡◌, refl, sym, ap, ◌∙◌}
use mathlib.Core.Bool.{Bool, true, false, ◌||◌, false≢true}
use mathlib.Core.Logic.{⊎_elim}
use borrow.Author.Tests.{eqb-true}
use Rattle.card.specs.declared.Card.{Card}
use Rattle.card.specs.Slots.{some_of, is_zero, is_free}
use Rattle.card.specs.Sound.{is_sound}
use Rattle.card.proofs.Rules.{pairing-rules, parts-rules, blank-rules, sound-cases}
use Rattle.std.specs.Prelude.{None}
use Rattle.card_slots.specs.Free.{first_free}
use Rattle.card_slots.proofs.FreeFacts.{found, some-found}
use Rattle.laws_commands.proofs.Changed.{blank-pending}

pub pending-slot : (c : Card) → is_sound c ≡ true → (c.pairing.pending ≡ 0 → ⊥) → first_free c.pairing.slots ≡ None → ⊥
pending-slot c e n f = ⊎_elim
    (λ b. n (blank-pending c.pairing (blank-rules c b.blank).pairing))
    (λ a.
    let r = pairing-rules c.pairing (parts-rules c a.parts).pairing in
    false≢true (none ∙ free-there (is_zero c.pairing.pending) refl r.room))
    (sound-cases c e)
  where
    none : false ≡ some_of is_free c.pairing.slots
    none = sym (some-found c.pairing.slots ∙ ap found f)

    free-there : (b : Bool) → is_zero c.pairing.pending ≡ b → (b || some_of is_free c.pairing.slots) ≡ true
        → some_of is_free c.pairing.slots ≡ true
    free-there true z t = absurd (n (eqb-true c.pairing.pending 0 z))
    free-there false z t = t
