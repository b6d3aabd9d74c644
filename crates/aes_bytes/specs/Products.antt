-- The products of a byte that InvMixColumns takes (FIPS 197, 5.3.3; RULES 7.1).
use Rattle.std.specs.Prelude.{ℕ}
use Rattle.aes_field.specs.Field.{◌•◌}
use Rattle.aes_bytes.specs.declared.Products.{Products}

abbrev pub products_of : ℕ → Products
products_of b = record { by_9 = 0x09 • b; by_11 = 0x0b • b; by_13 = 0x0d • b; by_14 = 0x0e • b }
