-- After each turn the last block of the chain over the rest is that of the chain over the whole.
-- Assumes nothing.
use Rattle.std.proofs.Common.{rules}
use mathlib.Core.Path.{◌≡◌, refl, sym, ap, ◌∙◌}
use mathlib.Core.List.{List}
use Prim.Native.Nat.{ℕ, ◌-◌, ◌*◌, ◌/◌}
use native.Mathlib.Nat.{sub-zero}
use native.Mathlib.Omega.{arith}
use lib.ListN.{length}
use Rattle.octets.specs.Bytes.{xor_bytes}
use Rattle.aes_rules.specs.Cipher.{cipher}
use Rattle.aes_words.specs.Words.{bytes_of}
use Rattle.aes_words.proofs.Words.{length-words}
use Rattle.aes_cbc.specs.Mode.{cbc_encrypt, last_block}
use Rattle.aes_cbc.proofs.Mac.{mac-turn, mac-turned}
use Rattle.aes_word_mac.proofs.last_block.Goals as goal

long : (s : List ℕ) → length s ≡ 4 → length (bytes_of s) ≡ 16
long s h = length-words s ∙ ap (λ (n : ℕ). n * 4) h

pub loop-plain-init : goal.loop-plain-init
loop-plain-init c = (rw sub-zero refl, search rules)

pub loop-plain-preserved : goal.loop-plain-preserved
loop-plain-preserved c =
    let l = c.loop-plain in
    let w : List ℕ = bytes_of c.args.w.now in (
      mac-turn (cipher w) (bytes_of l.prev) (bytes_of c.encrypt_words-c.result) c.args.xs.now c.as_chunks.result.0.now l.plain-index (length c.args.xs.now / 16)
          (omega (arith, c.as_chunks.ensures.front_len)) (long l.prev l.invariant.1) (long c.encrypt_words-c.result (search rules)) c.as_chunks.ensures.front
          (c.encrypt_words-c.ensures ∙ ap (cipher w) (c.xor_words.ensures ∙ ap (λ (x : List ℕ). xor_bytes x (bytes_of l.prev)) c.block_words.ensures))
          ∙ l.invariant.0,
      search rules,
    )

pub returns : goal.returns
unfolding cbc_encrypt
returns c =
    let l = c.loop-plain in
    let xs : List ℕ = c.args.xs.now in
    c.block_bytes.ensures
    ∙ sym (mac-turned (cipher (bytes_of c.args.w.now)) (bytes_of l.prev) xs (l.plain-index * 16) (length xs / 16 - l.plain-index) (long l.prev l.invariant.1) (omega (arith, c.as_chunks.ensures.front_len)))
    ∙ l.invariant.0
    ∙ ap (λ (p : List ℕ). last_block p (cbc_encrypt (cipher (bytes_of c.args.w.now)) p xs)) c.block_words-prev.ensures
