-- `append` meets its contract: what `put` writes is what is meant, where it fits.
-- Assumes nothing.
use mathlib.Core.Path.{refl}
use Prim.Native.Nat.{◌-◌}
use native.Mathlib.Omega.{arith}
use lib.ListN.{length}
use Rattle.soft_word_bytes.proofs.PieceFacts.{too_many, put}
use Rattle.soft_word_bytes.proofs.append.Goals as goal

pub returns-then-out-len : goal.returns-then-out-len
returns-then-out-len c = let a = c.args in
    too_many (length a.out.now - a.len) a.bytes.now refl (omega arith)

pub returns : goal.returns
returns c = let a = c.args in
    put (length a.out.now - a.len) a.bytes.now refl (omega arith) refl c.put.ensures
