-- No supply read, one read with its data, or a command that a step ends.
-- Assumes nothing.
use native.Mathlib.Omega.{arith}
use mathlib.Core.Path.{refl}
use mathlib.Core.List.{[]}
use lib.ListN.{take, length-take}
use Rattle.engine_sound.proofs.Answers.{ask-as, ask-nothing, ask-none, ask-some, ask-ended, did-ask, data-short}
use Rattle.engine_sound.proofs.ask_sound.Goals as goal

pub returns-then-kind-eq0 : goal.returns-then-kind-eq0
returns-then-kind-eq0 c = let going = c.in-Ok.going in
    ask-as _ _ _ _ _ (ask-none c.args.card _ going (take going.count c.route.new.plain) [] c.in-Ok.ensures c.if-kind-eq0.true) (ask-nothing 0 _ _ c.ask_refused-then-kind-eq0.ensures)

pub put-requires : goal.put-requires
put-requires c = let plain = c.route.new.plain in
    omega (arith, data-short _ c.in-Ok.going plain c.in-Ok.ensures, c.route.auto.plain, length-take c.in-Ok.going.count plain, c.requires.1)

pub returns : goal.returns
returns c = let going = c.in-Ok.going in
    let plain = c.route.new.plain in
    ask-as _ _ _ _ _ (ask-some c.args.card _ going (take going.count plain) [] c.in-Ok.ensures c.if-kind-eq0.false) (did-ask _ going.count c.args.buf.now _ _ c.in-Ok.ensures.ready.long c.put.ensures refl)

pub returns-in_default : goal.returns-in_default
returns-in_default c =
    ask-as _ _ _ _ _ (ask-ended c.args.card _ c.in_default.field-0 [] [] c.in_default.ensures) (ask-nothing 0 _ _ c.ask_refused.ensures)
