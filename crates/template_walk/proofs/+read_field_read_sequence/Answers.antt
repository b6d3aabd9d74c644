use Rattle.std.proofs.Common.{rules, ◌≡◌, ◌∙◌, Err}
use mathlib.Core.Path.{sym, ap}
use native.Mathlib.Omega.{arith}
use lib.ListN.{length-take, length-drop}
use Rattle.template_rules.proofs.HeadFacts.{head-facts}
use Rattle.template_rules.proofs.Parts.{length-part-from}
use Rattle.template_walk.specs.Handed.{handed}
use Rattle.template_walk.proofs.WalkFacts.{plus_none}
use Rattle.template_walk.proofs.Reading.{field-no-head, field-overruns, field_plain, field-too-deep, field-whole, field-fault, fault-within}
use Rattle.template_walk.proofs.Reading.{field-facts, fault-facts, sequence-next, sequence-faulty, sequence-end}
use Rattle.template_walk.proofs.+read_field_read_sequence.Goals as goal

pub read_field-returns-in_err-head : goal.read_field-returns-in_err-head
read_field-returns-in_err-head t c =
    let e : c.from_residual.result ≡ Err c.in_err-head.field-0.0 = search rules in
    e ∙ field-no-head c.args.levels c.args.s.now _ c.read_head.ensures.0 _ c.in_err-head.ensures.value c.in_err-head.ensures.ok_part

pub read_field-overflow_sub-s : goal.read_field-overflow_sub-s
read_field-overflow_sub-s t c =
    omega (arith, head-facts c.args.s.now _ _ _ c.read_head.ensures.0 c.in_ok-head.ensures.ok_part)

pub read_field-returns-then-s-head : goal.read_field-returns-then-s-head
read_field-returns-then-s-head t c =
    field-overruns c.args.levels c.args.s.now _ c.read_head.ensures.0 _ _ c.in_ok-head.ensures.ok_part
    c.if-s-head.true

pub read_field-overflow_add-bytes : goal.read_field-overflow_add-bytes
read_field-overflow_add-bytes t c =
    omega (arith, head-facts c.args.s.now _ _ _ c.read_head.ensures.0 c.in_ok-head.ensures.ok_part)

pub read_field-bounds-s-0 : goal.read_field-bounds-s-0
read_field-bounds-s-0 t c =
    omega (arith, head-facts c.args.s.now _ _ _ c.read_head.ensures.0 c.in_ok-head.ensures.ok_part)

pub read_field-returns-then-s-ne-TEMPLATE_BIT : goal.read_field-returns-then-s-ne-TEMPLATE_BIT
read_field-returns-then-s-ne-TEMPLATE_BIT t c =
    field_plain c.args.levels c.args.s.now _ c.read_head.ensures.0 _ _ c.in_ok-head.ensures.ok_part
    c.if-s-head.false c.if-s-ne-TEMPLATE_BIT.true

pub read_field-returns-then-levels-eq0 : goal.read_field-returns-then-levels-eq0
read_field-returns-then-levels-eq0 t c =
    field-too-deep c.args.levels c.args.s.now _ c.read_head.ensures.0 _ _ c.in_ok-head.ensures.ok_part c.if-s-head.false
    c.if-s-ne-TEMPLATE_BIT.false c.if-levels-eq0.true

pub read_field-slice_bounds-read_sequence-count : goal.read_field-slice_bounds-read_sequence-count
read_field-slice_bounds-read_sequence-count t c =
    omega (arith, head-facts c.args.s.now _ _ _ c.read_head.ensures.0 c.in_ok-head.ensures.ok_part)

pub read_field-slice_bounds-read_sequence-start : goal.read_field-slice_bounds-read_sequence-start
read_field-slice_bounds-read_sequence-start t c =
    omega (arith, head-facts c.args.s.now _ _ _ c.read_head.ensures.0 c.in_ok-head.ensures.ok_part)

pub read_field-slice_bounds-read_sequence-end : goal.read_field-slice_bounds-read_sequence-end
read_field-slice_bounds-read_sequence-end t c =
    omega (arith, head-facts c.args.s.now _ _ _ c.read_head.ensures.0 c.in_ok-head.ensures.ok_part)

pub read_field-read_sequence-requires : goal.read_field-read_sequence-requires
read_field-read_sequence-requires t c =
    let h = head-facts c.args.s.now _ _ _ c.read_head.ensures.0 c.in_ok-head.ensures.ok_part in
    (simp (length-take, length-drop) (omega (arith, c.decreases, h)), tt)

pub read_field-overflow_add-result : goal.read_field-overflow_add-result
read_field-overflow_add-result t c =
    let h = head-facts c.args.s.now _ _ _ c.read_head.ensures.0 c.in_ok-head.ensures.ok_part in
    let k = fault-within c.args.levels c.args.s.now _ c.read_head.ensures.0 _ _ c.in_ok-head.ensures.ok_part
    c.if-s-head.false c.if-s-ne-TEMPLATE_BIT.false c.if-levels-eq0.false _ c.read_sequence.ensures _ _ (ap handed c.in-Faulty.is) in
    omega (arith, h, k)

pub read_field-returns-in-Fields : goal.read_field-returns-in-Fields
read_field-returns-in-Fields t c =
    field-whole c.args.levels c.args.s.now _ c.read_head.ensures.0 _ _ c.in_ok-head.ensures.ok_part
    c.if-s-head.false c.if-s-ne-TEMPLATE_BIT.false c.if-levels-eq0.false _ c.read_sequence.ensures _ (ap handed c.in-Fields.is)

pub read_field-returns-in-Faulty : goal.read_field-returns-in-Faulty
read_field-returns-in-Faulty t c =
    field-fault c.args.levels c.args.s.now _ c.read_head.ensures.0 _ _ c.in_ok-head.ensures.ok_part
    c.if-s-head.false c.if-s-ne-TEMPLATE_BIT.false c.if-levels-eq0.false _ c.read_sequence.ensures _ _ (ap handed c.in-Faulty.is)

pub read_sequence-loop-at-init : goal.read_sequence-loop-at-init
read_sequence-loop-at-init t c = (omega arith, omega arith, sym (plus_none _))

pub read_sequence-read_field-requires : goal.read_sequence-read_field-requires
read_sequence-read_field-requires t c =
    (omega (arith, c.decreases, length-part-from c.loop-at.at c.args.s.now), tt)

pub read_sequence-overflow_add-count : goal.read_sequence-overflow_add-count
read_sequence-overflow_add-count t c =
    omega (
      arith,
      field-facts c.args.levels c.args.s.now c.loop-at.at _ c.read_field.ensures _ _ c.in-Ok.is,
    )

pub read_sequence-overflow_add-at : goal.read_sequence-overflow_add-at
read_sequence-overflow_add-at t c =
    omega (
      arith,
      field-facts c.args.levels c.args.s.now c.loop-at.at _ c.read_field.ensures _ _ c.in-Ok.is,
    )

pub read_sequence-loop-at-smaller : goal.read_sequence-loop-at-smaller
read_sequence-loop-at-smaller t c =
    omega (
      arith,
      field-facts c.args.levels c.args.s.now c.loop-at.at _ c.read_field.ensures _ _ c.in-Ok.is,
    )

pub read_sequence-loop-at-preserved : goal.read_sequence-loop-at-preserved
read_sequence-loop-at-preserved t c =
    let a = c.args in let l = c.loop-at in
    let f = field-facts a.levels a.s.now l.at _ c.read_field.ensures _ _ c.in-Ok.is in (
      omega arith,
      omega arith,
      sequence-next a.levels a.s.now l.at _ c.read_field.ensures l.count c.loop-at-test.true l.invariant.2 _ _
          c.in-Ok.is,
    )

pub read_sequence-overflow_add-result : goal.read_sequence-overflow_add-result
read_sequence-overflow_add-result t c =
    omega (
      arith,
      fault-facts c.args.levels c.args.s.now c.loop-at.at _ c.read_field.ensures _ _ c.in-Err.is,
    )

pub read_sequence-returns-in-Err : goal.read_sequence-returns-in-Err
read_sequence-returns-in-Err t c =
    let a = c.args in let l = c.loop-at in
    sequence-faulty a.levels a.s.now l.at _ c.read_field.ensures l.count c.loop-at-test.true l.invariant.2 _ _
    c.in-Err.is

pub read_sequence-returns : goal.read_sequence-returns
read_sequence-returns t c =
    let a = c.args in let l = c.loop-at in
    sequence-end a.levels a.s.now l.at l.count (omega arith) l.invariant.2
