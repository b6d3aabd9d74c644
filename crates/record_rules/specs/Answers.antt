-- What WRITE and READ answer (RULES 10.3, 10.4; the refusals are 1, 2 and 8 of RULES 3.2).
use Rattle.std.specs.Prelude.{ℕ, Bool, cond, ◌&&◌, List, [], ltb}
use Rattle.refusals.specs.Refusals.{no_refusal, unsound, no_room, not_record}
use Rattle.card.specs.declared.Card.{Card}
use Rattle.card.specs.Sizes.{uid_bytes, public_key_bytes}
use Rattle.card.specs.State.{fresh_of, zeros}
use Rattle.card.specs.Slots.{some_of}
use Rattle.card.specs.Sound.{is_sound}
use Rattle.sound.specs.Reset.{refused, done}
use Rattle.sound.specs.declared.Answer.{Answer}
use Rattle.record_rules.specs.Fields.{record_of}
use Rattle.record_rules.specs.Parse.{card_of}
use Rattle.record_rules.specs.Forms.{forms, is_in_form}
pub use Rattle.record_rules.specs.Lengths.{write_room}

-- ---- WRITE of a card into a buffer of `room` bytes (RULES 10.3): the refusal's number or 0, and the bytes written
unfoldable pub write_refusal : Card → ℕ → ℕ
write_refusal c room = cond (is_sound c) (cond (ltb room write_room) no_room no_refusal) unsound

unfoldable pub write_bytes : Card → ℕ → List ℕ
write_bytes c room = cond (is_sound c) (cond (ltb room write_room) [] (record_of c)) []

-- ---- READ (RULES 10.4): the sound card whose record the bytes are, in one of the forms; else 8 and FRESH of zeros
-- the card is sound, and the bytes are its record in one of the forms
unfoldable pub is_record_of : List ℕ → Card → Bool
is_record_of s c = is_sound c && some_of (is_in_form s c) forms

unfoldable pub read_answer : List ℕ → Answer
read_answer s = cond (is_record_of s (card_of s)) (done (card_of s)) (refused not_record (fresh_of (zeros uid_bytes) (zeros public_key_bytes)))
