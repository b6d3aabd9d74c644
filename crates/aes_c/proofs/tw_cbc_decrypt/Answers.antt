-- `aes_c::tw_cbc_decrypt` meets its contract, as `tw_cbc_encrypt` does.
-- Assumes nothing.
use mathlib.Core.Path.{refl, sym, ap₂, ◌∙◌}
use mathlib.Core.List.{List}
use Prim.Native.Nat.{ℕ}
use Rattle.aes_rules.specs.Aes.{inv_aes256}
use Rattle.aes_cbc.specs.Mode.{cbc_decrypt}
use Rattle.aes_calls.proofs.Answers.{cbc-lengths, did_nothing, did-all}
use Rattle.aes_c.proofs.tw_cbc_decrypt.Goals as goal

pub returns-then-answer-ne-DONE : goal.returns-then-answer-ne-DONE
returns-then-answer-ne-DONE c = did_nothing c.cbc_answer-answer.ensures c.if-answer-ne-DONE.true refl

pub key_of-k-requires : goal.key_of-k-requires
key_of-k-requires c = (cbc-lengths _ _ _ (sym c.cbc_answer-answer.ensures ∙ c.if-answer-ne-DONE.false)).key-long

pub block-requires : goal.block-requires
block-requires c = (cbc-lengths _ _ _ (sym c.cbc_answer-answer.ensures ∙ c.if-answer-ne-DONE.false)).iv-long

pub cbc_decrypt-requires : goal.cbc_decrypt-requires
cbc_decrypt-requires c = (cbc-lengths _ _ _ (sym c.cbc_answer-answer.ensures ∙ c.if-answer-ne-DONE.false)).whole

pub returns : goal.returns
returns c = let buf : List ℕ = c.args.buf.now in
    did-all refl (sym c.cbc_answer-answer.ensures ∙ c.if-answer-ne-DONE.false)
    (c.cbc_decrypt.ensures ∙ ap₂ (λ (k v : List ℕ). cbc_decrypt (inv_aes256 k) v buf) c.key_of-k.ensures c.block.ensures)
