-- What a function promises (RULES 6.8): that a slot is the one that the search found. A slot's index counts slots from 0.
use Rattle.std.specs.Prelude.{ℕ, List, ◌≡◌}
use Rattle.card.specs.declared.Slot.{Slot}
use Rattle.std.specs.Prelude.{Some}
use Rattle.card_slots.specs.Free.{first_free}

-- the first free slot is the one with this index
abbrev pub FoundAt : List Slot → ℕ → Type 0
FoundAt slots i = Some i ≡ first_free slots
