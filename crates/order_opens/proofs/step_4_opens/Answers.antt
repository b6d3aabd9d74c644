-- The field opens, or the route ends with 6982.
-- Assumes nothing.
use mathlib.Core.Path.{◌≡◌, ap, ◌∙◌}
use mathlib.Core.Bool.{false}
use native.Mathlib.Omega.{arith}
use Prim.Native.Nat.{ℕ, ◌-◌}
use lib.ListN.{length, length-take}
use Rattle.card.specs.State.{closed}
use Rattle.rules.specs.Channel.{with_mac}
use Rattle.rules.specs.Words.{security_not_met}
use Rattle.order_ends.proofs.Ending.{stored, routes-as, ends-route}
use Rattle.order_opens.proofs.Opened.{opens_as, open_none, open-long, open-within, open-goes, open-stored}
use Rattle.order_opens.proofs.step_4_opens.Goals as goal

pub returns-in_default : goal.returns-in_default
returns-in_default c = let g = c.args in
    let o = c.open_command in
    let q = opens_as g.cmd.now g.card g.field.now c.session_of-session.result c.session_of-session.ensures c.requires.0 o.result o.new.plain o.ensures in
    rw (c.ends.ensures, c.close-closed.ensures) (ends-route false (closed g.card) security_not_met _ _ (open_none g.i g.cmd.now g.card g.field.now o.result o.new.plain q c.in_default.is))

pub slice_bounds-block-end : goal.slice_bounds-block-end
slice_bounds-block-end c = let g = c.args in
    let o = c.open_command in
    let q = opens_as g.cmd.now g.card g.field.now c.session_of-session.result c.session_of-session.ensures c.requires.0 o.result o.new.plain o.ensures in
    omega (arith, open-long g.i g.cmd.now g.card g.field.now o.result o.new.plain q _ c.in-Some.is)

pub slice_bounds-step_5-end : goal.slice_bounds-step_5-end
slice_bounds-step_5-end c = let g = c.args in
    let o = c.open_command in
    let q = opens_as g.cmd.now g.card g.field.now c.session_of-session.result c.session_of-session.ensures c.requires.0 o.result o.new.plain o.ensures in
    let n : ℕ = c.in-Some.n in
    open-within g.i g.cmd.now g.card g.field.now o.result o.new.plain q n c.in-Some.is _ (omega (arith, o.auto.plain, length-take 224 g.plain.now, c.requires.1)) (n - 0) (omega arith)

pub step_5-requires : goal.step_5-requires
step_5-requires c = let g = c.args in
    let p = c.requires in
    (p.0, rw p.2, rw c.with_mac.ensures p.3)

pub returns : goal.returns
returns c = let g = c.args in
    let o = c.open_command in
    let q = opens_as g.cmd.now g.card g.field.now c.session_of-session.result c.session_of-session.ensures c.requires.0 o.result o.new.plain o.ensures in
    let n : ℕ = c.in-Some.n in
    let room : length o.new.plain ≡ 224 = omega (arith, o.auto.plain, length-take 224 g.plain.now, c.requires.1) in
    stored _ _ _ _
    (routes-as _ _ _ _ (open-goes g.i g.cmd.now g.card g.field.now o.result o.new.plain q n c.in-Some.is _ room (n - 0) (omega arith) c.with_mac.result (c.with_mac.ensures ∙ ap (with_mac g.card) c.block-mac.ensures)) c.step_5.ensures)
    (open-stored g.i g.cmd.now g.card g.field.now o.result o.new.plain q n c.in-Some.is _ room (n - 0) (omega arith))
