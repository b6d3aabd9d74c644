-- The sum is the definition's in another order.
-- Assumes nothing.
use Rattle.sha_rules.specs.Words.{Ch, Σ₁}
use Rattle.sha_rules.specs.Hash.{T₁}
use Rattle.sha_rules.proofs.Sums.{five-in-order}
use Rattle.sha_rounds.proofs.temporary_1.Goals as goal

pub returns : goal.returns
unfolding T₁
returns c = let a = c.args in
    rw (c.add-3.ensures, c.big_sigma_1.ensures, c.add-2.ensures, c.ch.ensures, c.add-known.ensures, c.add.ensures) (five-in-order a.h (Σ₁ a.e) (Ch a.e a.f a.g) a.k a.w)
