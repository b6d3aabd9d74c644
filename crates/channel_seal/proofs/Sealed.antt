-- What a buffer holds while a field is sealed in it: after the padding, after the encryption of the part that was lent, and after the MAC.
-- Assumes nothing.
use mathlib.Core.Path.{◌≡◌, refl, sym, ap, ap₂, ◌∙◌}
use mathlib.Core.List.{List, ◌++◌, append_assoc}
use Prim.Native.Nat.{ℕ, ◌+◌, ◌-◌, ◌≤◌}
use native.Mathlib.Omega.{arith}
use lib.ListN.{length, take, drop, length-append, length-take, length-drop}
use lib.Seq.{take_at, drop_at, drop-drop, length-take-le}
use Rattle.octets.specs.Bytes.{overwrite, written}
use Rattle.aes_padding.specs.Padding.{padded_bytes, pad}
use Rattle.aes_padding.proofs.Laws.{length-pad, padded-larger}
use Rattle.channel_heads.proofs.Tails.{tail-is, tail-put}

-- B is the buffer as it was, p the padded length, y₁ its tail after padding, y₂ the part after encryption
module _ (B : List ℕ) (n p : ℕ) (ep : p ≡ padded_bytes n) (room : 16 + padded_bytes n ≤ length B) (y₁ : List ℕ)
    (e₁ : y₁ ≡ written (pad (take n (take (length B - 16) (drop 16 B)))) (take (length B - 16) (drop 16 B))) where
  abbrev B₁ : List ℕ
  B₁ = take 16 B ++ (y₁ ++ drop (length B - 16) (drop 16 B))

  abbrev padded : List ℕ
  padded = pad (take n (drop 16 B))

  sixteen : length (take 16 B) ≡ 16
  sixteen = length-take-le 16 B (omega arith)

  long : length padded ≡ padded_bytes n
  long = length-pad (take n (drop 16 B)) ∙ ap padded_bytes (length-take-le n (drop 16 B) (omega (arith, length-drop 16 B, padded-larger n)))

  B₁-is : B₁ ≡ take 16 B ++ (padded ++ drop (padded_bytes n) (drop 16 B))
  B₁-is =
      tail-put 16 B y₁
      ∙ ap (λ (r : List ℕ). take 16 B ++ r)
      (e₁ ∙ ap (λ (t : List ℕ). written (pad (take n t)) t) (tail-is 16 B) ∙ ap (λ (k : ℕ). padded ++ drop k (drop 16 B)) long)

  B₁-tail : drop 16 B₁ ≡ padded ++ drop (padded_bytes n) (drop 16 B)
  B₁-tail = ap (drop 16) B₁-is ∙ drop_at (take 16 B) (padded ++ drop (padded_bytes n) (drop 16 B)) 16 sixteen

  count : 16 + p - 16 ≡ padded_bytes n
  count = omega arith

  -- the part that is lent to the cipher is the padded data
  pub lent : take (16 + p - 16) (drop 16 B₁) ≡ padded
  lent =
      ap₂ (λ (m : ℕ) (t : List ℕ). take m t) count B₁-tail ∙ take_at padded (drop (padded_bytes n) (drop 16 B)) (padded_bytes n) long

  pub lent-whole : length (take (16 + p - 16) (drop 16 B₁)) ≡ padded_bytes n
  lent-whole = ap length lent ∙ long

  module _ (y₂ : List ℕ) (l₂ : length y₂ ≡ length (take (16 + p - 16) (drop 16 B₁))) where
    abbrev B₂ : List ℕ
    B₂ = take 16 B₁ ++ (y₂ ++ drop (16 + p - 16) (drop 16 B₁))

    B₂-tail : drop 16 B₂ ≡ y₂ ++ drop (padded_bytes n) (drop 16 B)
    B₂-tail =
        drop_at (take 16 B₁) (y₂ ++ drop (16 + p - 16) (drop 16 B₁)) 16 (ap length (ap (take 16) B₁-is ∙ take_at (take 16 B) (padded ++ drop (padded_bytes n) (drop 16 B)) 16 sixteen) ∙ sixteen)
        ∙ ap (λ (r : List ℕ). y₂ ++ r)
        (ap₂ (λ (m : ℕ) (t : List ℕ). drop m t) count B₁-tail ∙ drop_at padded (drop (padded_bytes n) (drop 16 B)) (padded_bytes n) long)

    -- the part that the MAC is taken over is the ciphertext
    pub enciphered : take (16 + p - 16) (drop 16 B₂) ≡ y₂
    enciphered =
        ap₂ (λ (m : ℕ) (t : List ℕ). take m t) count B₂-tail ∙ take_at y₂ (drop (padded_bytes n) (drop 16 B)) (padded_bytes n) (l₂ ∙ lent-whole)

    -- and in the end there are the MAC, the ciphertext, and what was after them
    pub sealed : (mac : List ℕ) → length mac ≡ 16 → overwrite B₂ 0 mac ≡ written (mac ++ y₂) B
    sealed mac l =
        ap (λ (m : ℕ). mac ++ drop (0 + m) B₂) l
        ∙ ap (λ (r : List ℕ). mac ++ r) (B₂-tail ∙ ap (λ (r : List ℕ). y₂ ++ r) (drop-drop (padded_bytes n) 16 B))
        ∙ sym (append_assoc mac y₂ (drop (16 + padded_bytes n) B))
        ∙ ap (λ (k : ℕ). (mac ++ y₂) ++ drop k B) (sym whole)
      where
        whole : length (mac ++ y₂) ≡ 16 + padded_bytes n
        whole = omega (arith, length-append mac y₂, l, l₂, lent-whole)
