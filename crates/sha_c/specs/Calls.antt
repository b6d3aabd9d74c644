-- What the exported function answers, and what it leaves in the caller's bytes. Lengths are in bytes. An answer is one of
--   0  done
--   1  refused: the room for the digest has another length than 32 bytes
use Rattle.std.specs.Prelude.{◌≡◌, cond, List, ℕ, eqb}

-- the answer, from the length of the room for the digest
abbrev pub hash_answer : ℕ → ℕ
hash_answer room = cond (eqb room 32) 0 1

-- what a call did: the result r is the answer, and the caller's bytes, which were `before`, are the digest where the answer is 0, and what they
-- were at a refusal
pub record Did (answer : ℕ) (work : List ℕ) (r : ℕ) (before after : List ℕ) : Type 0 where
  pub told : r ≡ answer
  pub left : after ≡ cond (eqb answer 0) work before
