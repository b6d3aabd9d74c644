-- The library's rotation by 1 to 31 bits is the definition's.
-- Assumes nothing.
use Rattle.std.proofs.Common.{◌≡◌, ℕ, ◌-◌, ◌%◌, arith, refl}
use Rattle.sha_rules.specs.Words.{rotr}
use Rattle.sha_words.proofs.rotate.Goals as goal

pub returns : goal.returns
unfolding rotr
returns c =
    let n : ℕ = c.args.n in
    let right : n % 32 ≡ n = omega arith in
    let left : (32 - n) % 32 ≡ 32 - n = omega arith in
    rw (c.rotate_right.ensures, right, left) refl
