-- FIPS 180-4, section 5.1.1: padding (RULES 7.9). A message is a list of bytes, l bytes long, where the standard's l counts bits; the length that
-- the padding holds counts bits here too. The standard's 1 bit and the first 7 of its k zero bits are the byte 80.
use Rattle.std.specs.Prelude.{List, ◌∷◌, ◌++◌, ℕ, ◌+◌, ◌-◌, ◌*◌, ◌/◌, ◌%◌, ◌^◌, length, replicate}
use Rattle.octets.specs.Bytes.{tabulate}

-- the number of zero bytes after the byte 80: the least with which 8 bytes are left to the end of a block of 64
abbrev pub zero_bytes : ℕ → ℕ
zero_bytes l = (119 - l % 64) % 64

-- how many bytes the padding has: the byte 80, the zeros and the length
abbrev pub padding_bytes : ℕ → ℕ
padding_bytes l = 1 + zero_bytes l + 8

-- a number as n bytes, the highest first (3.1)
abbrev pub big_endian : ℕ → ℕ → List ℕ
big_endian n x = tabulate n (λ i. x / 256 ^ (n - 1 - i) % 256)

-- the length of l bytes, in bits, as 64 bits hold it
abbrev pub length_in_bits : ℕ → ℕ
length_in_bits l = 8 * l % 2 ^ 64

unfoldable pub padding : ℕ → List ℕ
padding l = (0x80 ∷ replicate (zero_bytes l) 0) ++ big_endian 8 (length_in_bits l)

unfoldable pub pad : List ℕ → List ℕ
pad m = m ++ padding (length m)
