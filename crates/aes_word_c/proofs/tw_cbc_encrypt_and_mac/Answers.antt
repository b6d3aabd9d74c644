-- `aes_word_c::tw_cbc_encrypt_and_mac` meets its contract. An answer of 0 gives the lengths that the pass asks; any other leaves both buffers.
-- Assumes nothing.
use Rattle.std.proofs.Common.{rules}
use mathlib.Core.Path.{◌≡◌, refl, sym, ap, ap₂, ◌∙◌}
use mathlib.Core.List.{List, ◌++◌}
use Prim.Native.Nat.{ℕ}
use native.Mathlib.Omega.{arith}
use lib.ListN.{length}
use Rattle.octets.proofs.Lists.{overwrite-whole}
use Rattle.aes_rules.specs.Aes.{aes256}
use Rattle.aes_cbc.specs.Mode.{cbc_encrypt, cbc_mac}
use Rattle.aes_calls.proofs.Answers.{seal-lengths, did_nothing, did-all}
use Rattle.aes_word_c.proofs.tw_cbc_encrypt_and_mac.Goals as goal

pub returns-then-answer-ne-DONE : goal.returns-then-answer-ne-DONE
returns-then-answer-ne-DONE c = record { did = did_nothing c.seal_answer-answer.ensures c.if-answer-ne-DONE.true refl; did_2 = did_nothing c.seal_answer-answer.ensures c.if-answer-ne-DONE.true refl }

pub key_of-k-requires : goal.key_of-k-requires
key_of-k-requires c = (seal-lengths _ _ _ _ _ _ (sym c.seal_answer-answer.ensures ∙ c.if-answer-ne-DONE.false)).key-long

pub key_of-l-requires : goal.key_of-l-requires
key_of-l-requires c = (seal-lengths _ _ _ _ _ _ (sym c.seal_answer-answer.ensures ∙ c.if-answer-ne-DONE.false)).mac-key-long

pub block-first-requires : goal.block-first-requires
block-first-requires c = (seal-lengths _ _ _ _ _ _ (sym c.seal_answer-answer.ensures ∙ c.if-answer-ne-DONE.false)).iv-long

pub block-h-requires : goal.block-h-requires
block-h-requires c = (seal-lengths _ _ _ _ _ _ (sym c.seal_answer-answer.ensures ∙ c.if-answer-ne-DONE.false)).head-long

pub cbc_encrypt_and_mac-m-requires : goal.cbc_encrypt_and_mac-m-requires
cbc_encrypt_and_mac-m-requires c = (seal-lengths _ _ _ _ _ _ (sym c.seal_answer-answer.ensures ∙ c.if-answer-ne-DONE.false)).whole

pub put-requires : goal.put-requires
put-requires c = let m : length c.cbc_encrypt_and_mac-m.result ≡ 16 = search rules in
    omega (arith, (seal-lengths _ _ _ _ _ _ (sym c.seal_answer-answer.ensures ∙ c.if-answer-ne-DONE.false)).room-long)

pub returns : goal.returns
returns c = let g = c.args in
    let done = sym c.seal_answer-answer.ensures ∙ c.if-answer-ne-DONE.false in
    let sealed = c.cbc_encrypt_and_mac-m in
    let m : length sealed.result ≡ 16 = search rules in
    let text : sealed.new.buf ≡ cbc_encrypt (aes256 g.key.now) g.iv.now g.buf.now =
    sealed.ensures.buf_after ∙ ap₂ (λ (k v : List ℕ). cbc_encrypt (aes256 k) v g.buf.now) c.key_of-k.ensures c.block-first.ensures in record {
      did = did-all refl done text;
      did_2 = did-all refl done
          (c.put.ensures
          ∙ overwrite-whole _ sealed.result (m ∙ sym (seal-lengths _ _ _ _ _ _ done).room-long)
          ∙ sealed.ensures.value
          ∙ ap₂ (λ (k h : List ℕ). cbc_mac (aes256 k) (h ++ sealed.new.buf)) c.key_of-l.ensures c.block-h.ensures
          ∙ ap (λ (y : List ℕ). cbc_mac (aes256 g.mac_key.now) (g.head.now ++ y)) text);
    }
