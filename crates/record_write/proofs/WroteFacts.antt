-- What WRITE did in each of its three answers. Assumes nothing.
use mathlib.Core.Path.{◌≡◌, ap, ◌∙◌}
use mathlib.Core.Bool.{true, false}
use mathlib.Core.List.{List}
use Prim.Native.Nat.{ℕ, ◌≤◌, ◌<◌}
use native.Mathlib.Omega.{arith}
use lib.ListN.{length}
use borrow.Author.Tests.{lt-ltb, le-ltb}
use Rattle.octets.proofs.Lists.{overwrite-start}
use Rattle.card.specs.declared.Card.{Card}
use Rattle.card.specs.Sound.{is_sound}
use Rattle.record_rules.specs.Fields.{fields_in, written_form, record_of}
use Rattle.refusals.specs.Refusals.{no_refusal, unsound, no_room}
use Rattle.record_rules.specs.Lengths.{write_room}
use Rattle.record_rules.specs.Answers.{write_refusal, write_bytes}
use Rattle.record_write.specs.Wrote.{WroteRecord}
use Rattle.record_fields.specs.Put.{Put}

pub wrote-unsound : (c : Card) (b : List ℕ) → is_sound c ≡ false → WroteRecord c (record { refusal = unsound; count = 0 }) b b
unfolding write_refusal write_bytes
wrote-unsound c b e = record { told = rw e; left = rw e }

pub wrote-small : (c : Card) (b : List ℕ) → is_sound c ≡ true → length b < write_room
    → WroteRecord c (record { refusal = no_room; count = 0 }) b b
unfolding write_refusal write_bytes
wrote-small c b e h = record { told = rw (e, lt-ltb _ _ h); left = rw (e, lt-ltb _ _ h) }

pub wrote-record : (c : Card) (b a : List ℕ) (n : ℕ) → is_sound c ≡ true → write_room ≤ length b → Put (fields_in written_form c) 0 b n a
    → WroteRecord c (record { refusal = no_refusal; count = n }) b a
unfolding write_refusal write_bytes record_of
wrote-record c b a n e h p = record {
  told = rw (e, le-ltb _ _ h) (ap (λ (k : ℕ). record { refusal = no_refusal; count = k }) (p.place ∙ omega arith));
  left = rw (e, le-ltb _ _ h) (p.bytes ∙ overwrite-start b (record_of c));
}
