-- Number by number, in two bytes each: the buffer holds those of the first k numbers (`put_next`), at the end all.
-- Assumes nothing.
use mathlib.Core.Path.{◌≡◌, refl, ap, ◌∙◌}
use mathlib.Core.List.{[], ◌∷◌}
use Prim.Native.Nat.{◌*◌, ◌/◌, ◌%◌, ◌≤◌}
use native.Mathlib.Omega.{arith}
use lib.ListN.{length}
use Rattle.octets.specs.Bytes.{overwrite}
use Rattle.phrase_rules.specs.Numbers.{word_numbers}
use Rattle.phrase_rules.proofs.Numbers.{length-word_numbers, length-numbers_of}
use Rattle.phrase_numbers.proofs.Streams.{stream-number, put-none, put_next, put-long, put_all}
use Rattle.phrase_numbers.proofs.put_numbers.Goals as goal

pub loop-k-init : goal.loop-k-init
loop-k-init c = (put-none c.args.out.now (word_numbers c.args.entropy.now), refl)

pub loop-k-preserved : goal.loop-k-preserved
loop-k-preserved c = let e = c.args.entropy.now in
    let n = length e / 4 in
    let l : length e ≡ 4 * n = omega arith in
    let m : n ≤ 8 = omega arith in
    let k = c.loop-k.k in
    let long : length (word_numbers e) ≡ 3 * n = length-word_numbers n e l m in
    let put : c.put.new.buf ≡ overwrite c.loop-k.out (2 * k) (c.number_at-x.result / 256 ∷ c.number_at-x.result % 256 ∷ []) = c.put.ensures ∙ ap (overwrite c.loop-k.out (2 * k)) c.two_bytes.ensures in (
      put_next c.args.out.now (word_numbers e) c.loop-k.out c.put.new.buf k c.number_at-x.result c.loop-k.invariant.0 (omega arith) (omega arith)
          (c.number_at-x.ensures.0 ∙ stream-number e c.joined-stream.result n l m c.joined-stream.ensures k (omega arith)) put,
      put-long c.loop-k.out c.put.new.buf _ (2 * k) (omega arith) put ∙ c.loop-k.invariant.1,
    )

pub returns : goal.returns
returns c = let e = c.args.entropy.now in
    let n = length e / 4 in
    let l : length e ≡ 4 * n = omega arith in
    let m : n ≤ 8 = omega arith in
    record {
      told = omega (arith, length-numbers_of n e l m);
      left = put_all c.args.out.now c.loop-k.out e c.loop-k.k c.loop-k.invariant.0 (omega (arith, length-word_numbers n e l m));
    }
