-- Nothing opened or too little is refused; else the plaintext is written and nothing after it.
-- Assumes nothing.
use mathlib.Core.Path.{refl, sym, ◌∙◌}
use Prim.Native.Nat.{ℕ, ◌-◌}
use native.Mathlib.Omega.{arith}
use lib.ListN.{length-take}
use Rattle.channel_rules.specs.Message.{response_head, open_field}
use Rattle.channel_rules.specs.Terminal.{unsealed}
use Rattle.channel_terminal.proofs.Outcomes.{did-refuse}
use Rattle.channel_open.proofs.Openings.{closed, holds, held-short, field-long}
use Rattle.channel_unseal.proofs.Openings.{unseal-closed, unseal-short, did-unseal}
use Rattle.channel_unseal.proofs.unseal_field.Goals as goal

pub returns-in_default : goal.returns-in_default
returns-in_default c = let g = c.args in
    let o = open_field g.s response_head g.field.now in
    did-refuse (unsealed g.s g.field.now o) g.s 7 _ g.buf.now
    (unseal-closed g.s g.field.now o (closed o (sym c.in_default.is ∙ c.open_response.ensures.told))) c.refused.ensures.refusal c.refused.ensures.count c.refused.ensures.session

pub returns-then-count-lt2 : goal.returns-then-count-lt2
returns-then-count-lt2 c = let g = c.args in
    let o = open_field g.s response_head g.field.now in
    let n : ℕ = c.in-Some.count in
    let refused = c.refused-then-count-lt2.ensures in
    did-refuse (unsealed g.s g.field.now o) g.s 7 _ g.buf.now
    (unseal-short g.s g.field.now o n (holds o n (sym c.in-Some.is ∙ c.open_response.ensures.told)) c.if-count-lt2.true) refused.refusal refused.count refused.session

pub slice_bounds-put-end : goal.slice_bounds-put-end
slice_bounds-put-end c = let g = c.args in
    let p = c.open_response in
    omega (arith, held-short (open_field g.s response_head g.field.now) c.in-Some.count p.result p.new.plain p.ensures c.in-Some.is, p.auto.plain)

pub put-requires : goal.put-requires
put-requires c = let g = c.args in
    let p = c.open_response in
    let n : ℕ = c.in-Some.count in
    omega (arith, held-short (open_field g.s response_head g.field.now) n p.result p.new.plain p.ensures c.in-Some.is, length-take (n - 0) p.new.plain, c.requires)

pub slice_bounds-block-end : goal.slice_bounds-block-end
slice_bounds-block-end c = let g = c.args in
    let p = c.open_response in
    omega (arith, field-long g.s response_head g.field.now c.in-Some.count p.result p.new.plain p.ensures c.in-Some.is)

pub returns : goal.returns
returns c = let g = c.args in
    let o = open_field g.s response_head g.field.now in
    let n : ℕ = c.in-Some.count in
    let opens = c.open_response.ensures in
    did-unseal g.s g.field.now o n (n - 0) c.open_response.new.plain g.buf.now c.put.new.buf c.open_response.result _ c.block-mac.result opens
    (holds o n (sym c.in-Some.is ∙ opens.told)) c.if-count-lt2.false (omega arith) c.put.ensures c.block-mac.ensures refl refl c.after.ensures
