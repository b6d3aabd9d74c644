-- What the exported functions answer, and what they leave in the caller's bytes. Lengths are in bytes. An answer is one of
--   0  done
--   1  refused: a key has another length than 32 bytes
--   2  refused: the IV, or the head block, has another length than 16 bytes
--   3  refused: the data is no number of whole blocks of 16 bytes; of a MAC also: there is no data
--   4  refused: the room for the MAC has another length than 16 bytes
-- If two things are wrong, the smaller number is given.
use Rattle.std.specs.Prelude.{◌≡◌, cond, ◌&&◌, List, ℕ, ◌%◌, eqb}

-- the answer of CBC encryption and decryption, from the lengths of the key, the IV and the data
unfoldable pub cbc_answer : ℕ → ℕ → ℕ → ℕ
cbc_answer key iv text =
    cond (eqb key 32)
    (cond (eqb iv 16) (cond (eqb (text % 16) 0) 0 3) 2)
    1

-- the answer of CBC-MAC, from the lengths of the key, the data and the room for the MAC
unfoldable pub mac_answer : ℕ → ℕ → ℕ → ℕ
mac_answer key text room =
    cond (eqb key 32)
    (cond (eqb text 0) 3 (cond (eqb (text % 16) 0) (cond (eqb room 16) 0 4) 3))
    1

-- the answer of CBC encryption with the MAC over it, from the lengths of both keys, the IV, the head block, the data and the room for the MAC
unfoldable pub seal_answer : ℕ → ℕ → ℕ → ℕ → ℕ → ℕ → ℕ
seal_answer key mac-key iv head text room =
    cond (eqb key 32 && eqb mac-key 32)
    (cond (eqb iv 16 && eqb head 16) (cond (eqb (text % 16) 0) (cond (eqb room 16) 0 4) 3) 2)
    1

-- what a call did: the result r is the answer, and the caller's bytes, which were `before`, are what the work makes of them where the
-- answer is 0, and what they were at a refusal
pub record Did (answer : ℕ) (work : List ℕ) (r : ℕ) (before after : List ℕ) : Type 0 where
  pub told : r ≡ answer
  pub left : after ≡ cond (eqb answer 0) work before
