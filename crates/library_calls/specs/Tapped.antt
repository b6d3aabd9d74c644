-- What the tap read reports to C and Rust (RULES 3.8, 10.7): a reference cannot pass there, so it is which of the two slices, an offset and a
-- length, both in bytes.
use Rattle.std.specs.Prelude.{ℕ}
use Rattle.refusals.specs.Refusals.{no_refusal, not_record}
use Rattle.record_tap.specs.declared.TapPlace.{TapPlace}
use Rattle.record_tap.specs.declared.TapPlace.TheVariants as place
use Rattle.library_calls.specs.declared.Tapped.{Tapped}

-- which slice: none, the stored record, the factory record
abbrev pub no_slice : ℕ
no_slice = 0

abbrev pub stored_slice : ℕ
stored_slice = 1

abbrev pub factory_slice : ℕ
factory_slice = 2

-- of a factory record of n bytes
unfoldable pub tapped_of : TapPlace → ℕ → Tapped
tapped_of place.Nowhere n = record { refusal = not_record; source = no_slice; offset = 0; length = 0 }
tapped_of (place.Own start count) n = record { refusal = no_refusal; source = stored_slice; offset = start; length = count }
tapped_of place.Factory n = record { refusal = no_refusal; source = factory_slice; offset = 0; length = n }
