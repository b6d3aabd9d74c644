-- A turn of the inverse cipher's loop is an inverse round, and the step after the loop is the last one.
-- Assumes nothing.
use mathlib.Core.Path.{◌≡◌, sym, ap, ◌∙◌}
use mathlib.Core.List.{List}
use Prim.Native.Nat.{ℕ, suc, ◌-◌, ◌<◌}
use native.Mathlib.Omega.{arith}
use Rattle.octets.specs.Bytes.{xor_bytes}
use Rattle.aes_rules.specs.Cipher.{add_round_key, round_key}
use Rattle.aes_rules.specs.InvCipher.{inv_shift_rows, inv_sub_bytes, inv_mix_columns, inv_round, inv_rounds, inv_cipher}

-- after round r, t is the state from which the rounds r - 1 to 1 are left
pub turn : (w t t₀ v : List ℕ) (r : ℕ) → 1 < r → inv_rounds w (r - 1) t ≡ inv_rounds w 13 t₀
    → v ≡ inv_mix_columns (xor_bytes (inv_sub_bytes (inv_shift_rows t)) (round_key w (r - 1))) → inv_rounds w (r - 1 - 1) v ≡ inv_rounds w 13 t₀
unfolding add_round_key inv_round
turn w t t₀ v r h et ev =
    ap (inv_rounds w (r - 1 - 1)) (ev ∙ ap (λ (k : ℕ). inv_round w k t) here) ∙ ap (λ (k : ℕ). inv_rounds w k t) (sym here) ∙ et
  where
    here : r - 1 ≡ suc (r - 1 - 1)
    here = omega arith

pub last_turn : (w s t t₀ v : List ℕ) (r : ℕ) → r ≡ 1 → inv_rounds w (r - 1) t ≡ inv_rounds w 13 t₀ → t₀ ≡ xor_bytes s (round_key w 14)
    → v ≡ xor_bytes (inv_sub_bytes (inv_shift_rows t)) (round_key w 0) → v ≡ inv_cipher w s
unfolding add_round_key inv_cipher
last_turn w s t t₀ v r er et e₀ ev =
    ev
    ∙ ap (λ (x : List ℕ). add_round_key (inv_sub_bytes (inv_shift_rows x)) (round_key w 0))
    (ap (λ (k : ℕ). inv_rounds w k t) (sym none) ∙ et ∙ ap (inv_rounds w 13) e₀)
  where
    none : r - 1 ≡ 0
    none = omega arith
