-- After i turns the first 4 * i bytes are those of the first i words.
-- Assumes nothing.
use Rattle.std.proofs.Common.{rules}
use mathlib.Core.Path.{◌≡◌, refl, sym, ap, ◌∙◌}
use mathlib.Core.List.{List}
use Prim.Native.Nat.{ℕ, ◌+◌, ◌*◌}
use native.Mathlib.Omega.{arith}
use lib.ListN.{length, take, get_or}
use lib.Seq.{take_all}
use Rattle.octets.proofs.Lists.{◌&◌}
use Rattle.sha_rules.specs.Padding.{big_endian}
use Rattle.sha_rules.specs.Hash.{digest}
use Rattle.sha_hash.proofs.Words.{grown}
use Rattle.sha_hash.proofs.digest_of.Goals as goal

pub loop-i-init : goal.loop-i-init
loop-i-init c = (refl, search rules)

pub loop-i-preserved : goal.loop-i-preserved
loop-i-preserved c = let h : List ℕ = c.args.h in
    let l = c.loop-i in
    let eight : length h ≡ 8 = search rules in
    let word : c.to_be_bytes.result ≡ big_endian 4 (get_or h l.i 0) = c.to_be_bytes.ensures ∙ (refl & refl & refl & omega arith & refl) in
    (ap (take (4 * (l.i + 1))) c.put.ensures ∙ grown h l.r c.to_be_bytes.result l.i (omega arith) (omega arith) l.invariant.0 word, search rules)

pub returns : goal.returns
returns c = let h : List ℕ = c.args.h in
    let l = c.loop-i in
    let eight : length h ≡ 8 = search rules in
    sym (take_all (4 * l.i) l.r (omega arith)) ∙ l.invariant.0 ∙ ap digest (take_all l.i h (omega arith))
