-- Words of a schedule: four bytes of a list, written out, and the three cases of the word after a schedule.
-- Assumes nothing.
use mathlib.Core.Path.{◌≡◌, refl, sym, ap, ap₂, ◌∙◌}
use mathlib.Core.List.{List, [], ◌∷◌}
use Prim.Native.Nat.{ℕ, ◌+◌, ◌-◌, ◌/◌, ◌%◌, ◌≤◌, ◌<◌}
use native.Mathlib.Nat.{add-zero}
use native.Mathlib.Omega.{arith}
use borrow.Author.Tests.{eq-eqb, ne_eqb}
use lib.ListN.{length, drop, get_or, length-take, length-drop}
use lib.Seq.{get_or-take, get_or-drop}
use Rattle.octets.specs.Bytes.{xor_bytes}
use Rattle.octets.proofs.Lists.{tabulated, ◌&◌}
use Rattle.aes_rules.specs.Schedule.{rot_word, sub_word, rcon, changed, word_at, next_word}

-- ---- word_at
byte_of : (w : List ℕ) (m k : ℕ) → k < 4 → get_or (word_at w m) k 0 ≡ get_or w (m + k) 0
byte_of w m k h = get_or-take 4 (drop m w) k 0 h ∙ get_or-drop m w k 0

pub four_bytes : (w : List ℕ) (m : ℕ) → m + 4 ≤ length w
    → ◌≡◌ {A = List ℕ} (get_or w m 0 ∷ get_or w (m + 1) 0 ∷ get_or w (m + 2) 0 ∷ get_or w (m + 3) 0 ∷ []) (word_at w m)
four_bytes w m h =
    sym
    (tabulated 4 (word_at w m) long
    ∙ ((byte_of w m 0 (omega arith) ∙ ap (λ (n : ℕ). get_or w n 0) (add-zero m)) & byte_of w m 1 (omega arith) & byte_of w m 2 (omega arith) & byte_of w m 3 (omega arith) & refl))
  where
    long : length (word_at w m) ≡ 4
    long = simp (length-take, length-drop) (omega arith)

-- ---- next_word
module _ (w old temp : List ℕ) (eo : old ≡ word_at w (length w - 32)) (et : temp ≡ word_at w (length w - 4)) where
  abbrev i : ℕ
  i = length w / 4

  next : (new r : List ℕ) → r ≡ xor_bytes old new → new ≡ changed i temp → r ≡ next_word w
  unfolding next_word
  next new r er en = er ∙ ap₂ xor_bytes eo (en ∙ ap (changed i) et)

  pub next-eighth : (rot sub rc new r : List ℕ) → i % 8 ≡ 0 → rot ≡ rot_word temp → sub ≡ sub_word rot → rc ≡ rcon (i / 8)
      → new ≡ xor_bytes sub rc → r ≡ xor_bytes old new → r ≡ next_word w
  next-eighth rot sub rc new r h e₁ e₂ e₃ e₄ e₅ =
      next new r e₅ (e₄ ∙ ap₂ xor_bytes (e₂ ∙ ap sub_word e₁) e₃ ∙ rw (eq-eqb (i % 8) 0 h))

  pub next-fourth : (sub r : List ℕ) → (i % 8 ≡ 0 → ⊥) → i % 8 ≡ 4 → sub ≡ sub_word temp → r ≡ xor_bytes old sub → r ≡ next_word w
  next-fourth sub r n h e₁ e₂ = next sub r e₂ (e₁ ∙ rw (ne_eqb (i % 8) 0 n, eq-eqb (i % 8) 4 h))

  pub next-other : (r : List ℕ) → (i % 8 ≡ 0 → ⊥) → (i % 8 ≡ 4 → ⊥) → r ≡ xor_bytes old temp → r ≡ next_word w
  next-other r n m e = next temp r e (rw (ne_eqb (i % 8) 0 n, ne_eqb (i % 8) 4 m))
