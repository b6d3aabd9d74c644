-- Number by number: what is said of all numbers is said of those from k on.
-- Assumes nothing.
use mathlib.Core.Path.{sym}
use native.Mathlib.Omega.{arith}
use Rattle.phrase_rules.specs.Reverse.{from_two_bytes}
use Rattle.phrase_rules.proofs.Numbers.{length-from_two_bytes}
use Rattle.phrase_rules.proofs.Reverse.{not-eleven}
use Rattle.phrase_checks.proofs.Checks.{eleven-next, eleven-end}
use Rattle.phrase_checks.proofs.in_eleven_bits.Goals as goal

pub returns-then-number_in-gt-NUMBER_MAX : goal.returns-then-number_in-gt-NUMBER_MAX
returns-then-number_in-gt-NUMBER_MAX c = let words = c.args.words.now in
    sym (not-eleven (from_two_bytes words) c.loop-k.k (omega (arith, length-from_two_bytes words)) (omega (arith, c.number_in.ensures)))

pub loop-k-preserved : goal.loop-k-preserved
loop-k-preserved c = let words = c.args.words.now in
    eleven-next (from_two_bytes words) c.loop-k.k (omega (arith, length-from_two_bytes words)) (omega (arith, c.number_in.ensures)) c.loop-k.invariant

pub returns : goal.returns
returns c = let words = c.args.words.now in
    sym (eleven-end (from_two_bytes words) c.loop-k.k (omega (arith, length-from_two_bytes words)) c.loop-k.invariant)
