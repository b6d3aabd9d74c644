-- After each turn the bytes done, and the chain over the rest, are the chain over the whole; and what is left of the MAC is the MAC of the whole.
-- Assumes nothing.
use Rattle.std.proofs.Common.{rules}
use mathlib.Core.Path.{◌≡◌, refl, sym, ap, ap₂, ◌∙◌}
use mathlib.Core.List.{List}
use Prim.Native.Nat.{ℕ, ◌-◌, ◌+◌, ◌*◌, ◌≤◌, ◌/◌}
use native.Mathlib.Nat.{sub-zero}
use native.Mathlib.Omega.{arith}
use lib.ListN.{length, drop}
use Rattle.aes_rules.specs.Cipher.{cipher}
use Rattle.aes_words.specs.Words.{bytes_of}
use Rattle.aes_words.proofs.Words.{length-words}
use Rattle.aes_cbc.specs.Mode.{encrypt_block, cbc_encrypt}
use Rattle.aes_cbc.proofs.Chains.{turn, turned}
use Rattle.aes_word_seal.proofs.InStep.{length-cipher, rest, in_step, in-step-end, sealed-mac}
use Rattle.aes_word_seal.proofs.seal_blocks.Goals as goal

long : (s : List ℕ) → length s ≡ 4 → length (bytes_of s) ≡ 16
long s h = length-words s ∙ ap (λ (n : ℕ). n * 4) h

pub loop-n-init : goal.loop-n-init
loop-n-init c = (rw sub-zero refl, rw sub-zero refl)

pub loop-n-preserved : goal.loop-n-preserved
loop-n-preserved c = let g = c.args in
    let l = c.loop-n in
    let p = c.seal_part-pair in
    let w : List ℕ = bytes_of g.w.now in
    let v : List ℕ = bytes_of g.v.now in
    let y : List ℕ = p.new.part in
    let at : ℕ = l.n * 16 in
    let end : ℕ = (l.n + 1) * 16 in
    let next : end ≡ at + 16 = omega arith in
    let all : length l.buf ≡ length g.buf.now = search rules in
    let fits : end ≤ length l.buf = omega (arith, all) in
    let kept : length (bytes_of p.result.first) ≡ 16 = long p.result.first (search rules) in (
      turn (encrypt_block (cipher w)) (encrypt_block (cipher w)) (bytes_of l.prev) (bytes_of p.result.first) l.buf y at end (at + 16 - at) (length g.buf.now)
          next (omega arith) fits all (ap length p.ensures.part_after ∙ kept) (p.ensures.part_after ∙ p.ensures.first_value) p.ensures.first_value
          ∙ l.invariant.0,
      in_step (cipher w) (cipher v) (bytes_of l.prev) (bytes_of p.result.first) (bytes_of l.waiting) (bytes_of p.result.second) (bytes_of c.xor_words-next.result) l.buf y at end (at + 16 - at) (length g.buf.now)
          next (omega arith) fits all kept (long p.result.second (search rules)) (length-cipher v (bytes_of c.xor_words-next.result))
          p.ensures.first_value p.ensures.second_value c.xor_words-next.ensures p.ensures.part_after
          ∙ l.invariant.1,
    )

pub returns : goal.returns
unfolding cbc_encrypt
returns c = let g = c.args in
    let l = c.loop-n in
    let w : List ℕ = bytes_of g.w.now in
    let v : List ℕ = bytes_of g.v.now in
    let text : List ℕ = g.buf.now in
    let at : ℕ = l.n * 16 in
    let done : l.buf ≡ cbc_encrypt (cipher w) g.iv text =
    sym (turned (encrypt_block (cipher w)) (encrypt_block (cipher w)) (bytes_of l.prev) l.buf at ((length text - at) / 16) (omega arith) (omega arith)) ∙ l.invariant.0 ∙ ap (λ (p : List ℕ). cbc_encrypt (cipher w) p text) c.block_words-prev.ensures in record {
      buf_after = done;
      value = sealed-mac (cipher w) (cipher v) g.iv g.head text l.buf c.block_bytes.result (search rules) (length-cipher v g.head) (search rules) done
          (c.block_bytes.ensures ∙ c.encrypt_words-mac.ensures ∙ sym (in-step-end (cipher w) (cipher v) ((length text - at) / 16) (bytes_of l.prev) (bytes_of l.waiting) (drop at l.buf) (length-cipher v (bytes_of l.waiting)) (omega arith)) ∙ l.invariant.1
          ∙ ap₂ (λ (p h : List ℕ). rest (cipher w) (cipher v) (length text / 16) p h text) c.block_words-prev.ensures c.block_words-waiting.ensures);
    }
