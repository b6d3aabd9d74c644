-- After each turn the bytes done, and the chain over the rest, are the chain over the whole.
-- Assumes nothing.
use Rattle.std.proofs.Common.{rules}
use mathlib.Core.Path.{◌≡◌, refl, sym, ap, ◌∙◌}
use mathlib.Core.List.{List}
use Prim.Native.Nat.{ℕ, ◌-◌, ◌+◌, ◌*◌, ◌/◌}
use native.Mathlib.Nat.{sub-zero}
use native.Mathlib.Omega.{arith}
use lib.ListN.{length}
use Rattle.aes_rules.specs.Cipher.{cipher}
use Rattle.aes_words.specs.Words.{bytes_of}
use Rattle.aes_words.proofs.Words.{length-words}
use Rattle.aes_cbc.specs.Mode.{encrypt_block, cbc_encrypt}
use Rattle.aes_cbc.proofs.Chains.{turn, turned}
use Rattle.aes_word_cbc.proofs.encrypt_blocks.Goals as goal

long : (s : List ℕ) → length s ≡ 4 → length (bytes_of s) ≡ 16
long s h = length-words s ∙ ap (λ (n : ℕ). n * 4) h

pub loop-n-init : goal.loop-n-init
loop-n-init c = rw sub-zero refl

pub loop-n-preserved : goal.loop-n-preserved
loop-n-preserved c =
    let l = c.loop-n in
    let p = c.encrypt_part-c in
    turn (encrypt_block (cipher (bytes_of c.args.w.now))) (encrypt_block (cipher (bytes_of c.args.w.now))) (bytes_of l.prev) (bytes_of p.result) l.buf p.new.part (l.n * 16) ((l.n + 1) * 16) (l.n * 16 + 16 - l.n * 16) (length c.args.buf.now)
    (omega arith) (omega arith) (omega arith) (omega arith) (ap length p.ensures.part_after ∙ long p.result (search rules)) (p.ensures.part_after ∙ p.ensures.result_value) p.ensures.result_value
    ∙ l.invariant

pub returns : goal.returns
unfolding cbc_encrypt
returns c =
    let l = c.loop-n in
    sym (turned (encrypt_block (cipher (bytes_of c.args.w.now))) (encrypt_block (cipher (bytes_of c.args.w.now))) (bytes_of l.prev) l.buf (l.n * 16) ((length c.args.buf.now - l.n * 16) / 16) (omega arith) (omega arith)) ∙ l.invariant ∙ ap (λ (p : List ℕ). cbc_encrypt (cipher (bytes_of c.args.w.now)) p c.args.buf.now) c.block_words-prev.ensures
