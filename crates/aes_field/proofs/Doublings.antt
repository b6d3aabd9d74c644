-- That three doublings give the products is computed once over the 256 bytes, and carried to each byte.
-- Assumes nothing.
use Prim.Native.Nat.{ℕ, ◌<◌}
use Rattle.octets.proofs.Table.{agree-below}
use Rattle.aes_field.specs.Field.{◌⊕◌, x_times, ◌•◌}
use Rattle.aes_field.specs.Doublings.{twice, four_times, eight_times, ByDoublings}

pub by-doublings : (b : ℕ) → b < 256 → ByDoublings b
unfolding ◌•◌ x_times
by-doublings b h =
    record {
      nine = agree-below (λ k. 0x09 • k) (λ k. k ⊕ eight_times k) 256 tt b h;
      eleven = agree-below (λ k. 0x0b • k) (λ k. k ⊕ twice k ⊕ eight_times k) 256 tt b h;
      thirteen = agree-below (λ k. 0x0d • k) (λ k. k ⊕ four_times k ⊕ eight_times k) 256 tt b h;
      fourteen = agree-below (λ k. 0x0e • k) (λ k. twice k ⊕ four_times k ⊕ eight_times k) 256 tt b h;
    }
