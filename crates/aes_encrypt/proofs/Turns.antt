-- A turn of the cipher's loop is a round, and the step after the loop is the last round.
-- Assumes nothing.
use mathlib.Core.Path.{◌≡◌, ap, ap₂, ◌∙◌}
use mathlib.Core.List.{List}
use Prim.Native.Nat.{ℕ, suc, ◌+◌, ◌-◌, ◌≤◌}
use native.Mathlib.Omega.{arith}
use Rattle.octets.specs.Bytes.{xor_bytes}
use Rattle.aes_rules.specs.Cipher.{sub_bytes, shift_rows, mix_columns, add_round_key, round_key, round, rounds, cipher}

-- ahead of round r, t is the state after the rounds 1 to r - 1
pub turn : (w t t₀ v : List ℕ) (r : ℕ) → 1 ≤ r → t ≡ rounds w (r - 1) t₀ → v ≡ xor_bytes (mix_columns (shift_rows (sub_bytes t))) (round_key w r)
    → v ≡ rounds w (r + 1 - 1) t₀
unfolding add_round_key round
turn w t t₀ v r h et ev =
    ev
    ∙ ap₂ (λ (x : List ℕ) (k : ℕ). round w k x) et (here)
    ∙ ap (λ (k : ℕ). rounds w k t₀) next
  where
    here : r ≡ suc (r - 1)
    here = omega arith

    next : suc (r - 1) ≡ r + 1 - 1
    next = omega arith

pub last_turn : (w s t t₀ v : List ℕ) (r : ℕ) → r ≡ 14 → t ≡ rounds w (r - 1) t₀ → t₀ ≡ xor_bytes s (round_key w 0)
    → v ≡ xor_bytes (shift_rows (sub_bytes t)) (round_key w 14) → v ≡ cipher w s
unfolding add_round_key cipher
last_turn w s t t₀ v r er et e₀ ev =
    ev
    ∙ ap (λ (x : List ℕ). add_round_key (shift_rows (sub_bytes x)) (round_key w 14)) (et ∙ ap₂ (rounds w) after e₀)
  where
    after : r - 1 ≡ 13
    after = omega arith
