-- Where the length is more than the room, the definition's first line fails; else the other two lines are what the calls answer.
-- Assumes nothing.
use Rattle.std.proofs.Common.{rules}
use mathlib.Core.Path.{◌≡◌, sym}
use native.Mathlib.Omega.{arith}
use lib.ListN.{length}
use lib.Seq.{length-take-le}
use Rattle.sound_tap.proofs.TapFacts.{tap-long, tap-within}
use Rattle.sound_tap.proofs.tap_sound.Goals as goal

pub returns-then-len-gt-TAP_MAX_BYTES : goal.returns-then-len-gt-TAP_MAX_BYTES
returns-then-len-gt-TAP_MAX_BYTES c = tap-long c.args.t c.wide-len.result c.wide-len.ensures c.if-len-gt-TAP_MAX_BYTES.true

pub slice_bounds-bytes-end : goal.slice_bounds-bytes-end
slice_bounds-bytes-end c = let l : length c.args.t.bytes ≡ 223 = search rules in
    omega (arith, l)

pub slice_bounds-is_ndef-end : goal.slice_bounds-is_ndef-end
slice_bounds-is_ndef-end c = sym (length-take-le _ _ ((let l : length c.args.t.bytes ≡ 223 = search rules in
    omega (arith, l))))

pub returns : goal.returns
returns c =
    tap-within c.args.t c.wide-len.result _ _
    c.wide-len.ensures
    c.if-len-gt-TAP_MAX_BYTES.false
    c.zero_from-clear.ensures
    c.is_ndef-ndef.ensures
