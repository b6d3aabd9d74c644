-- The hash value after the whole blocks, then after the end, as a digest.
-- Assumes nothing.
use mathlib.Core.Path.{sym}
use mathlib.Core.List.{List}
use Prim.Native.Nat.{ℕ, ◌*◌, ◌/◌}
use native.Mathlib.Omega.{arith}
use lib.ListN.{length}
use lib.Seq.{length-take-le}
use Rattle.sha_hash.proofs.Steps.{hashed}
use Rattle.sha_hash.proofs.sha256.Goals as goal

pub slice_bounds-hash_blocks-end : goal.slice_bounds-hash_blocks-end
slice_bounds-hash_blocks-end c = let m : List ℕ = c.args.message.now in
    sym (length-take-le (length m / 64 * 64) m (omega arith))

pub hash_blocks-h-requires : goal.hash_blocks-h-requires
hash_blocks-h-requires c = let m : List ℕ = c.args.message.now in
    record { k_value = c.constants-k.ensures; s_len = omega (arith, length-take-le (length m / 64 * 64) m (omega arith)) }

pub returns : goal.returns
returns c = hashed c.args.message.now _ _ _ _ c.initial_hash.ensures c.hash_blocks-h.ensures c.hash_end.ensures c.digest_of.ensures
