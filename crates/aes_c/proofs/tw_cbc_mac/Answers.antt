-- `aes_c::tw_cbc_mac` meets its contract. An answer of 0 gives a first block and whole blocks after it; joined they are the text.
-- Assumes nothing.
use Rattle.std.proofs.Common.{rules}
use mathlib.Core.Path.{◌≡◌, refl, sym, ap, ap₂, ◌∙◌}
use mathlib.Core.List.{List, ◌++◌}
use Prim.Native.Nat.{ℕ, ◌-◌}
use native.Mathlib.Omega.{arith}
use lib.ListN.{length, take, drop}
use lib.Seq.{length-take-le}
use Rattle.aes_rules.specs.Aes.{aes256}
use Rattle.aes_cbc.specs.Mode.{cbc_mac}
use Rattle.octets.proofs.Lists.{overwrite-whole}
use Rattle.aes_calls.proofs.Answers.{mac-lengths, did_nothing, did-all, behind-whole, rejoined}
use Rattle.aes_c.proofs.tw_cbc_mac.Goals as goal

pub returns-then-answer-ne-DONE : goal.returns-then-answer-ne-DONE
returns-then-answer-ne-DONE c = did_nothing c.mac_answer-answer.ensures c.if-answer-ne-DONE.true refl

pub key_of-k-requires : goal.key_of-k-requires
key_of-k-requires c = (mac-lengths _ _ _ (sym c.mac_answer-answer.ensures ∙ c.if-answer-ne-DONE.false)).key-long

pub slice_bounds-block-end : goal.slice_bounds-block-end
slice_bounds-block-end c = sym (length-take-le 16 c.args.text.now (mac-lengths _ _ _ (sym c.mac_answer-answer.ensures ∙ c.if-answer-ne-DONE.false)).some)

pub block-head-requires : goal.block-head-requires
block-head-requires c = length-take-le 16 c.args.text.now (mac-lengths _ _ _ (sym c.mac_answer-answer.ensures ∙ c.if-answer-ne-DONE.false)).some

pub slice_bounds-cbc_mac-count : goal.slice_bounds-cbc_mac-count
slice_bounds-cbc_mac-count c = (mac-lengths _ _ _ (sym c.mac_answer-answer.ensures ∙ c.if-answer-ne-DONE.false)).some

pub slice_bounds-cbc_mac-start : goal.slice_bounds-cbc_mac-start
slice_bounds-cbc_mac-start c = (mac-lengths _ _ _ (sym c.mac_answer-answer.ensures ∙ c.if-answer-ne-DONE.false)).some

pub cbc_mac-m-requires : goal.cbc_mac-m-requires
cbc_mac-m-requires c = let l = mac-lengths _ _ _ (sym c.mac_answer-answer.ensures ∙ c.if-answer-ne-DONE.false) in
    behind-whole c.args.text.now l.some l.whole

pub put-requires : goal.put-requires
put-requires c = let l = mac-lengths _ _ _ (sym c.mac_answer-answer.ensures ∙ c.if-answer-ne-DONE.false) in
    let m : length c.cbc_mac-m.result ≡ 16 = search rules in omega (arith, l.room-long)

pub returns : goal.returns
returns c = let text : List ℕ = c.args.text.now in
    let key : List ℕ = c.args.key.now in
    let done = sym c.mac_answer-answer.ensures ∙ c.if-answer-ne-DONE.false in
    let l = mac-lengths _ _ _ done in
    let m : length c.cbc_mac-m.result ≡ 16 = search rules in
    did-all refl done
    (c.put.ensures
    ∙ overwrite-whole _ c.cbc_mac-m.result (m ∙ sym l.room-long)
    ∙ c.cbc_mac-m.ensures
    ∙ ap₂ (λ (k h : List ℕ). cbc_mac (aes256 k) (h ++ take (length text - 16) (drop 16 text))) c.key_of-k.ensures c.block-head.ensures
    ∙ ap (cbc_mac (aes256 key)) (rejoined text l.some))
