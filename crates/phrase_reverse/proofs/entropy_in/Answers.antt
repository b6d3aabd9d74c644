-- Byte by byte: the array begins with the first k bytes of the entropy.
-- Assumes nothing.
use mathlib.Core.Path.{◌≡◌, ap, ◌∙◌}
use Prim.Native.Nat.{ℕ, ◌*◌, ◌/◌}
use native.Mathlib.Omega.{arith}
use lib.ListN.{length, take, length-set}
use lib.Seq.{take_all}
use Rattle.octets.proofs.Filling.{front-more}
use Rattle.phrase_rules.specs.Reverse.{entropy_in}
use Rattle.phrase_rules.proofs.Reverse.{entropy-byte, length-entropy_in}
use Rattle.phrase_reverse.proofs.entropy_in.Goals as goal

pub byte_at-requires : goal.byte_at-requires
byte_at-requires c = record { k_bound = omega arith; k_in_bounds = omega arith }

pub loop-k-preserved : goal.loop-k-preserved
loop-k-preserved c = let words = c.args.words.now in
    let k = c.loop-k.k in
    let long : length (entropy_in words) ≡ 4 * (length words / 6) = length-entropy_in words in (
      front-more c.loop-k.entropy (entropy_in words) k c.byte_at.result (omega arith) (omega arith) c.loop-k.invariant.0
          (c.byte_at.ensures.0 ∙ entropy-byte words k (omega arith)),
      length-set c.loop-k.entropy k c.byte_at.result ∙ c.loop-k.invariant.1,
    )

pub returns : goal.returns
returns c = let words = c.args.words.now in
    let long : length (entropy_in words) ≡ 4 * (length words / 6) = length-entropy_in words in
    let end : 4 * (length words / 6) ≡ c.loop-k.k = omega arith in
    ap (λ (j : ℕ). take j c.loop-k.entropy) end
    ∙ c.loop-k.invariant.0
    ∙ take_all c.loop-k.k (entropy_in words) (omega arith)
