-- Under any schedule of bytes, CIPHER and INVCIPHER take blocks to blocks, and each undoes the other: an inverse round takes the state
-- after ShiftRows of one round back to that of the round before.
-- Assumes nothing.
use mathlib.Core.Path.{◌≡◌, refl, ap, ◌∙◌}
use mathlib.Core.List.{List}
use Prim.Native.Nat.{ℕ, zero, suc, ◌*◌}
use lib.ListN.{drop}
use Rattle.octets.specs.Bytes.{Bytes, Block}
use Rattle.octets.proofs.Lists.{bytes_take, bytes_drop}
use Rattle.aes_rules.specs.Cipher.{sub_bytes, shift_rows, mix_columns, add_round_key, round_key, round, rounds, cipher}
use Rattle.aes_rules.specs.InvCipher.{inv_shift_rows, inv_sub_bytes, inv_mix_columns, inv_round, inv_rounds, inv_cipher}
use Rattle.aes_rules.proofs.Steps.{sub-bytes-block, inv-sub-bytes-block, inv-sub-bytes-sub-bytes, sub-bytes-inv-sub-bytes, shift-rows-block, inv-shift-rows-block, inv-shift-rows-shift-rows, shift-rows-inv-shift-rows, mix-columns-block, inv-mix-columns-block, inv-mix-columns-mix-columns, mix-columns-inv-mix-columns, add-round-key-block, add-round-key-twice}

-- the two steps that every round begins with, and the two that every inverse round begins with
abbrev ahead : List ℕ → List ℕ
ahead s = shift_rows (sub_bytes s)

abbrev back : List ℕ → List ℕ
back s = inv_sub_bytes (inv_shift_rows s)

ahead-block : (s : List ℕ) → Block s → Block (ahead s)
ahead-block s h = shift-rows-block (sub_bytes s) (sub-bytes-block s h)

back-block : (s : List ℕ) → Block s → Block (back s)
back-block s h = inv-sub-bytes-block (inv_shift_rows s) (inv-shift-rows-block s h)

back-ahead : (s : List ℕ) → Block s → back (ahead s) ≡ s
back-ahead s h =
    ap inv_sub_bytes (inv-shift-rows-shift-rows (sub_bytes s) (sub-bytes-block s h)) ∙ inv-sub-bytes-sub-bytes s h

ahead-back : (s : List ℕ) → Block s → ahead (back s) ≡ s
ahead-back s h =
    ap shift_rows (sub-bytes-inv-sub-bytes (inv_shift_rows s) (inv-shift-rows-block s h)) ∙ shift-rows-inv-shift-rows s h

module _ (w : List ℕ) (hw : Bytes w) where
  round-key-bytes : (r : ℕ) → Bytes (round_key w r)
  round-key-bytes r = bytes_take 16 (drop (r * 16) w) (bytes_drop (r * 16) w hw)

  keyed : (r : ℕ) (s : List ℕ) → Block s → Block (add_round_key s (round_key w r))
  keyed r s h = add-round-key-block s (round_key w r) h (round-key-bytes r)

  -- ---- one round
  round-block : (r : ℕ) (s : List ℕ) → Block s → Block (round w r s)
  unfolding round
  round-block r s h = keyed r (mix_columns (ahead s)) (mix-columns-block (ahead s) (ahead-block s h))

  inv-round-block : (r : ℕ) (s : List ℕ) → Block s → Block (inv_round w r s)
  unfolding inv_round
  inv-round-block r s h = inv-mix-columns-block (add_round_key (back s) (round_key w r)) (keyed r (back s) (back-block s h))

  inv-round-round : (r : ℕ) (s : List ℕ) → Block s → inv_round w r (ahead (round w r s)) ≡ ahead s
  unfolding round inv_round
  inv-round-round r s h =
      let k : List ℕ = round_key w r in
      let m : List ℕ = mix_columns (ahead s) in
      ap (λ (x : List ℕ). inv_mix_columns (add_round_key x k)) (back-ahead (add_round_key m k) (round-block r s h))
      ∙ ap inv_mix_columns (add-round-key-twice m k)
      ∙ inv-mix-columns-mix-columns (ahead s) (ahead-block s h)

  round-inv-round : (r : ℕ) (s : List ℕ) → Block s → round w r (back (inv_round w r s)) ≡ back s
  unfolding round inv_round
  round-inv-round r s h =
      let k : List ℕ = round_key w r in
      let m : List ℕ = add_round_key (back s) k in
      ap (λ (x : List ℕ). add_round_key (mix_columns x) k) (ahead-back (inv_mix_columns m) (inv-round-block r s h))
      ∙ ap (λ (x : List ℕ). add_round_key x k) (mix-columns-inv-mix-columns m (keyed r (back s) (back-block s h)))
      ∙ add-round-key-twice (back s) k

  -- ---- the rounds
  rounds-block : (r : ℕ) (s : List ℕ) → Block s → Block (rounds w r s)
  rounds-block zero s h = h
  rounds-block (suc r) s h = round-block (suc r) (rounds w r s) (rounds-block r s h)

  inv-rounds-block : (r : ℕ) (s : List ℕ) → Block s → Block (inv_rounds w r s)
  inv-rounds-block zero s h = h
  inv-rounds-block (suc r) s h = inv-rounds-block r (inv_round w (suc r) s) (inv-round-block (suc r) s h)

  inv-rounds-rounds : (r : ℕ) (s : List ℕ) → Block s → inv_rounds w r (ahead (rounds w r s)) ≡ ahead s
  inv-rounds-rounds zero s h = refl
  inv-rounds-rounds (suc r) s h =
      ap (inv_rounds w r) (inv-round-round (suc r) (rounds w r s) (rounds-block r s h)) ∙ inv-rounds-rounds r s h

  rounds-inv-rounds : (r : ℕ) (s : List ℕ) → Block s → rounds w r (back (inv_rounds w r s)) ≡ back s
  rounds-inv-rounds zero s h = refl
  rounds-inv-rounds (suc r) s h =
      ap (round w (suc r)) (rounds-inv-rounds r (inv_round w (suc r) s) (inv-round-block (suc r) s h))
      ∙ round-inv-round (suc r) s h

  -- ---- the whole
  pub cipher-block : (s : List ℕ) → Block s → Block (cipher w s)
  unfolding cipher
  cipher-block s h =
      let t : List ℕ = rounds w 13 (add_round_key s (round_key w 0)) in
      keyed 14 (ahead t) (ahead-block t (rounds-block 13 (add_round_key s (round_key w 0)) (keyed 0 s h)))

  pub inv-cipher-block : (s : List ℕ) → Block s → Block (inv_cipher w s)
  unfolding inv_cipher
  inv-cipher-block s h =
      let t : List ℕ = inv_rounds w 13 (add_round_key s (round_key w 14)) in
      keyed 0 (back t) (back-block t (inv-rounds-block 13 (add_round_key s (round_key w 14)) (keyed 14 s h)))

  pub inv-cipher-cipher : (s : List ℕ) → Block s → inv_cipher w (cipher w s) ≡ s
  unfolding cipher inv_cipher
  inv-cipher-cipher s h =
      let k : List ℕ = round_key w 0 in
      let t : List ℕ = add_round_key s k in
      ap (λ (x : List ℕ). add_round_key (back (inv_rounds w 13 x)) k) (add-round-key-twice (ahead (rounds w 13 t)) (round_key w 14))
      ∙ ap (λ (x : List ℕ). add_round_key (back x) k) (inv-rounds-rounds 13 t (keyed 0 s h))
      ∙ ap (λ (x : List ℕ). add_round_key x k) (back-ahead t (keyed 0 s h))
      ∙ add-round-key-twice s k

  pub cipher-inv-cipher : (s : List ℕ) → Block s → cipher w (inv_cipher w s) ≡ s
  unfolding cipher inv_cipher
  cipher-inv-cipher s h =
      let k : List ℕ = round_key w 14 in
      let t : List ℕ = add_round_key s k in
      ap (λ (x : List ℕ). add_round_key (ahead (rounds w 13 x)) k) (add-round-key-twice (back (inv_rounds w 13 t)) (round_key w 0))
      ∙ ap (λ (x : List ℕ). add_round_key (ahead x) k) (rounds-inv-rounds 13 t (keyed 14 s h))
      ∙ ap (λ (x : List ℕ). add_round_key x k) (ahead-back t (keyed 14 s h))
      ∙ add-round-key-twice s k
