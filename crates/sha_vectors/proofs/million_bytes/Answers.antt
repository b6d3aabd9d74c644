-- An array of a million equal bytes has a million elements.
-- Assumes nothing.
use Rattle.std.proofs.Common.{ℕ, sym}
use lib.ListN.{length-replicate}
use Rattle.sha_vectors.proofs.million_bytes.Goals as goal

pub returns : goal.returns
returns c = sym (length-replicate {A = ℕ} 1000000 97)
