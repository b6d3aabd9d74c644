-- FIPS 180-4, sections 5.2.1 and 6.2: SHA-256 (RULES 7.10). A block is 64 bytes, 16 words with the highest byte first; the working variables a to
-- h, and a hash value, are a list of 8 words.
use Rattle.std.specs.Prelude.{List, [], ◌∷◌, ◌++◌, ℕ, zero, suc, ◌+◌, ◌-◌, ◌*◌, ◌/◌, ◌^◌, length, get_or, take, drop}
use Rattle.octets.specs.Bytes.{tabulate}
use Rattle.sha_rules.specs.Words.{◌⊞◌, Ch, Maj, Σ₀, Σ₁, σ₀, σ₁}
use Rattle.sha_rules.specs.Constants.{K, H⁰}
use Rattle.sha_rules.specs.Padding.{big_endian, pad}

-- 5.2.1: word t of a block
unfoldable pub word : List ℕ → ℕ → ℕ
word m t =
    get_or m (4 * t) 0 * 2 ^ 24 + get_or m (4 * t + 1) 0 * 2 ^ 16 + get_or m (4 * t + 2) 0 * 2 ^ 8 + get_or m (4 * t + 3) 0

-- 6.2.2, 1: the message schedule. Word t, from 16 on, from the words before it; the first 16 + n words; all 64
unfoldable pub schedule_word : List ℕ → ℕ → ℕ
schedule_word w t = σ₁ (get_or w (t - 2) 0) ⊞ get_or w (t - 7) 0 ⊞ σ₀ (get_or w (t - 15) 0) ⊞ get_or w (t - 16) 0

unfoldable pub expand : ℕ → List ℕ → List ℕ
expand zero m = tabulate 16 (word m)
expand (suc n) m = expand n m ++ (schedule_word (expand n m) (16 + n) ∷ [])

unfoldable pub schedule : List ℕ → List ℕ
schedule m = expand 48 m

-- 6.2.2, 3: a round with the constant k and the schedule's word w, and the rounds 0 to t - 1
unfoldable pub T₁ : ℕ → ℕ → ℕ → ℕ → ℕ → ℕ → ℕ
T₁ e f g h k w = h ⊞ Σ₁ e ⊞ Ch e f g ⊞ k ⊞ w

unfoldable pub T₂ : ℕ → ℕ → ℕ → ℕ
T₂ a b c = Σ₀ a ⊞ Maj a b c

abbrev pub next_variables : ℕ → ℕ → ℕ → ℕ → ℕ → ℕ → ℕ → ℕ → ℕ → ℕ → List ℕ
next_variables a b c d e f g h k w =
    (T₁ e f g h k w ⊞ T₂ a b c) ∷ a ∷ b ∷ c ∷ (d ⊞ T₁ e f g h k w) ∷ e ∷ f ∷ g ∷ []

unfoldable pub round : ℕ → ℕ → List ℕ → List ℕ
round k w s =
    next_variables (get_or s 0 0) (get_or s 1 0) (get_or s 2 0) (get_or s 3 0) (get_or s 4 0) (get_or s 5 0) (get_or s 6 0) (get_or s 7 0) k w

unfoldable pub rounds : List ℕ → ℕ → List ℕ → List ℕ
rounds w zero s = s
rounds w (suc t) s = round (get_or K t 0) (get_or w t 0) (rounds w t s)

-- 6.2.2, 2 to 4: the hash value after the block m, from the hash value h before it
abbrev pub added : List ℕ → List ℕ → List ℕ
added s h = tabulate 8 (λ i. get_or s i 0 ⊞ get_or h i 0)

unfoldable pub compress : List ℕ → List ℕ → List ℕ
compress h m = added (rounds (schedule m) 64 h) h

-- the hash value after n blocks
unfoldable pub blocks : ℕ → List ℕ → List ℕ → List ℕ
blocks zero h m = h
blocks (suc n) h m = blocks n (compress h (take 64 m)) (drop 64 m)

-- the message digest: the words of a hash value, one after the other; and SHA-256 of a message
abbrev pub digest : List ℕ → List ℕ
digest [] = []
digest (x ∷ h) = big_endian 4 x ++ digest h

unfoldable pub sha256 : List ℕ → List ℕ
sha256 m = digest (blocks (length (pad m) / 64) H⁰ (pad m))
