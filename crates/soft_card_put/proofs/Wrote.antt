-- A list that is written from its front on: from what lies before a place to what lies before the next.
-- Every place and length is in bytes.
-- Assumes nothing.
use mathlib.Core.Path.{◌≡◌, sym, ap, ap₂, ◌∙◌}
use mathlib.Core.List.{List, [], ◌∷◌, ◌++◌}
use Prim.Native.Nat.{ℕ, ◌+◌, ◌≤◌, ◌<◌}
use native.Mathlib.Numerals.{add-one}
use native.Mathlib.Omega.{arith}
use lib.ListN.{length, take, set, length-set}
use lib.Seq.{take-suc-set}
use Rattle.octets.specs.Bytes.{overwrite}
use Rattle.octets.proofs.Lists.{take-overwrite}
use Rattle.soft_card_bytes.proofs.Grown.{join}

pub wrote-bytes : (s : List ℕ) (at n : ℕ) (x : List ℕ) {s' : List ℕ} → n ≡ length x → at + n ≤ length s → s' ≡ overwrite s at x
    → take at s ++ x ≡ take (at + n) s'
wrote-bytes s at n x l h e =
    sym (take-overwrite s at x (omega arith))
    ∙ ap₂ (λ (k : ℕ) (r : List ℕ). take (at + k) r) (sym l) (sym e)

pub wrote-byte : (s : List ℕ) (at b : ℕ) → at < length s → take at s ++ (b ∷ []) ≡ take (at + 1) (set s at b)
wrote-byte s at b h = sym (take-suc-set s at b h) ∙ ap (λ (n : ℕ). take n (set s at b)) (sym (add-one at))

-- ---- a byte and the n bytes after it: a length in use and its room, whatever the room's length
pub wrote-room : (s : List ℕ) (at b n : ℕ) (x : List ℕ) {s' : List ℕ} → n ≡ length x → at + (1 + n) ≤ length s → s' ≡ overwrite (set s at b) (at + 1) x
    → take at s ++ (b ∷ x) ≡ take (at + (1 + n)) s'
wrote-room s at b n x {s'} l h e =
    join (take at s) _ _ (wrote-byte s at b (omega arith)) (wrote-bytes (set s at b) (at + 1) n x l (omega (arith, length-set s at b)) e)
    ∙ ap (λ (k : ℕ). take k s') {x = at + 1 + n} {y = at + (1 + n)} (omega arith)
