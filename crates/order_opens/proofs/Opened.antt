-- What an opened field and one that does not open lead to. Lengths are in bytes.
-- Assumes nothing.
use mathlib.Core.Path.{◌≡◌, refl, sym, ap, subst, ◌∙◌}
use mathlib.Core.Bool.{false}
use mathlib.Core.List.{List, [], ◌∷◌, ◌++◌}
use mathlib.Core.Option.{Option, none, some}
use Prim.Native.Nat.{ℕ, ◌≤◌}
use native.Mathlib.Omega.{arith}
use lib.ListN.{length, take, get_or, length-append}
use lib.Seq.{take-append-le, length-take-le}
use Rattle.channel_rules.specs.declared.Session.{Session}
use Rattle.std.specs.Prelude as rust
use Rattle.channel_rules.specs.Message.{open_field, command_head}
use Rattle.channel_open.specs.Promise.{Opens}
use Rattle.channel_open.proofs.Openings.{Holds, holds, held-short, field-long}
use Rattle.channel_open.proofs.Openings.{closed as closed_none}
use Rattle.card.specs.declared.Card.{Card}
use Rattle.card.specs.State.{closed}
use Rattle.rules.specs.declared.Instruction.{Instruction}
use Rattle.rules.specs.Words.{security_not_met, fails}
use Rattle.rules.specs.Channel.{session_of, with_mac, tell}
use Rattle.rules.specs.Steps.{then, finish, ends, header_of, opened_by, by_opening, step5}
use Rattle.order_ends.specs.Routes.{from_opening, from_step5}

header_is : (cmd : List ℕ) → 4 ≤ length cmd → (get_or cmd 0 0 ∷ get_or cmd 1 0 ∷ get_or cmd 2 0 ∷ get_or cmd 3 0 ∷ []) ≡ header_of cmd
header_is [] h = absurd (omega (arith, h))
header_is (a ∷ []) h = absurd (omega (arith, h))
header_is (a ∷ (b ∷ [])) h = absurd (omega (arith, h))
header_is (a ∷ (b ∷ (x ∷ []))) h = absurd (omega (arith, h))
header_is (a ∷ (b ∷ (x ∷ (y ∷ more)))) h = refl

-- the opening as the code asks for it, byte by byte of the header
pub opens_as : (cmd : List ℕ) (c : Card) (field : List ℕ) (s : Session) → s ≡ session_of c.channel → 4 ≤ length cmd → (r : rust.Option ℕ) (at : List ℕ)
    → Opens (open_field s (command_head (get_or cmd 0 0 ∷ get_or cmd 1 0 ∷ get_or cmd 2 0 ∷ get_or cmd 3 0 ∷ [])) field) r at → Opens (opened_by c cmd field) r at
opens_as cmd c field s e h r at p =
    subst (λ (x : Session). Opens (open_field x (command_head (header_of cmd)) field) r at) e
    (subst (λ (x : List ℕ). Opens (open_field s (command_head x) field) r at) (header_is cmd h) p)

module _ (i : Instruction) (cmd : List ℕ) (c : Card) (field : List ℕ) where
  by-opening : (o : Option (List ℕ)) → opened_by c cmd field ≡ o → from_opening i cmd c field ≡ finish (then (by_opening c field o) (step5 i cmd))
  by-opening o e = ap (λ (x : Option (List ℕ)). finish (then (by_opening c field x) (step5 i cmd))) e

  -- the opening's answer r, which left the data at the start of `at`
  module _ (r : rust.Option ℕ) (at : List ℕ) (p : Opens (opened_by c cmd field) r at) where
    pub open_none : r ≡ rust.None → from_opening i cmd c field ≡ ends (tell false (fails (closed c) security_not_met))
    unfolding tell
    open_none e = by-opening none (closed_none (opened_by c cmd field) (sym e ∙ p.told))

    module _ (n : ℕ) (e : r ≡ rust.Some n) where
      held : Holds (opened_by c cmd field) n
      held = holds _ n (sym e ∙ p.told)

      open-short : n ≤ 223
      open-short = held-short (opened_by c cmd field) n r at p e

      pub open-long : 32 ≤ length field
      open-long = field-long (session_of c.channel) (command_head (header_of cmd)) field n r at p e

      open-some : from_opening i cmd c field ≡ from_step5 i cmd (with_mac c (take 16 field)) (take n at)
      open-some =
          by-opening (some held.plain) held.is
          ∙ ap (from_step5 i cmd (with_mac c (take 16 field))) (p.left held.plain held.is ∙ ap (λ (k : ℕ). take k at) held.long)

      -- the scratch holds what the opening wrote and z after it; m is the data's length as the code counts the part
      module _ (z : List ℕ) (room : length at ≡ 224) (m : ℕ) (em : m ≡ n) where
        pub open-within : n ≤ length (at ++ z)
        open-within = omega (arith, open-short, room, length-append at z)

        pub open-goes : (next : Card) → next ≡ with_mac c (take 16 field) → from_opening i cmd c field ≡ from_step5 i cmd next (take m (at ++ z))
        open-goes next f = open-some ∙ rw (f, em, take-append-le n at z (omega (arith, open-short, room)))

        pub open-stored : take (length (take m (at ++ z))) (at ++ z) ≡ take m (at ++ z)
        open-stored = rw (em, length-take-le n (at ++ z) open-within)
