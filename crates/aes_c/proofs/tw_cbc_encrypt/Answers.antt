-- `aes_c::tw_cbc_encrypt` meets its contract. An answer of 0 gives the lengths that `cbc_encrypt` asks; any other leaves the buffer.
-- Assumes nothing.
use mathlib.Core.Path.{refl, sym, ap₂, ◌∙◌}
use mathlib.Core.List.{List}
use Prim.Native.Nat.{ℕ}
use Rattle.aes_rules.specs.Aes.{aes256}
use Rattle.aes_cbc.specs.Mode.{cbc_encrypt}
use Rattle.aes_calls.proofs.Answers.{cbc-lengths, did_nothing, did-all}
use Rattle.aes_c.proofs.tw_cbc_encrypt.Goals as goal

pub returns-then-answer-ne-DONE : goal.returns-then-answer-ne-DONE
returns-then-answer-ne-DONE c = did_nothing c.cbc_answer-answer.ensures c.if-answer-ne-DONE.true refl

pub key_of-k-requires : goal.key_of-k-requires
key_of-k-requires c = (cbc-lengths _ _ _ (sym c.cbc_answer-answer.ensures ∙ c.if-answer-ne-DONE.false)).key-long

pub block-requires : goal.block-requires
block-requires c = (cbc-lengths _ _ _ (sym c.cbc_answer-answer.ensures ∙ c.if-answer-ne-DONE.false)).iv-long

pub cbc_encrypt-requires : goal.cbc_encrypt-requires
cbc_encrypt-requires c = (cbc-lengths _ _ _ (sym c.cbc_answer-answer.ensures ∙ c.if-answer-ne-DONE.false)).whole

pub returns : goal.returns
returns c = let buf : List ℕ = c.args.buf.now in
    did-all refl (sym c.cbc_answer-answer.ensures ∙ c.if-answer-ne-DONE.false)
    (c.cbc_encrypt.ensures ∙ ap₂ (λ (k v : List ℕ). cbc_encrypt (aes256 k) v buf) c.key_of-k.ensures c.block.ensures)
