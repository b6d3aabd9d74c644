-- SET NDEF gives no response data; its reply as the code makes it.
-- Assumes nothing.
use mathlib.Core.Path.{◌≡◌, refl}
use mathlib.Core.List.{List, []}
use Prim.Native.Nat.{ℕ}
use Rattle.card.specs.declared.Tap.{Tap}
use Rattle.card.specs.declared.Card.{Card}
use Rattle.card.specs.State.{tap_of, with_tap}
use Rattle.rules.specs.declared.Replied.{Replied}
use Rattle.rules.specs.Words.{succeeds}
use Rattle.rules.specs.Code.{replied_of}
use Rattle.rules.specs.Commands.{ndef_reply}

pub ndef-response : (c : Card) (d : List ℕ) → (ndef_reply c d).response ≡ []
unfolding ndef_reply
ndef-response c d = refl

pub ndef-replied :
    (c : Card) (d : List ℕ) (t : Tap) (x : Card) (r : Replied)
    → t ≡ tap_of d
    → x ≡ with_tap c t
    → r ≡ replied_of (succeeds x [])
    → r ≡ replied_of (ndef_reply c d)
unfolding ndef_reply
ndef-replied c d t x r e f g = rw (g, f, e)
