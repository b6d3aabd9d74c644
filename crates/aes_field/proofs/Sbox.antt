-- The two tables have 256 entries, are the rules of FIPS 197 at every entry, and each undoes the other; and the inverse of the field is one.
-- Each fact is one test that the checker computes over all 256 entries, carried to each entry by a law.
-- Assumes nothing.
use mathlib.Core.Path.{◌≡◌, refl, sym, ap, ◌∙◌, subst}
use mathlib.Core.List.{List}
use Prim.Native.Nat.{ℕ, zero, suc, ◌<◌}
use native.Mathlib.Omega.{arith}
use lib.Dec.{T, ltb, ltb→lt}
use lib.ListN.{get_or, length}
use Rattle.octets.proofs.Table.{each_below, agree-below}
use Rattle.aes_field.specs.Field.{x_times, ◌•◌, inverse, affine, inv_affine, sub_byte, inv_sub_byte}
use Rattle.aes_field.specs.Tables.{sbox, inv_sbox}

-- ---- inverse: the product of a byte with it is 1, but for 0, whose inverse is 0
pub product-inverse : (b : ℕ) → 0 < b → b < 256 → b • inverse b ≡ 1
unfolding inverse ◌•◌ x_times
product-inverse zero p h = absurd (omega arith)
product-inverse (suc k) p h = agree-below (λ k. suc k • inverse (suc k)) (λ _. 1) 255 tt k (omega arith)

pub inverse-zero : inverse 0 ≡ 0
unfolding inverse ◌•◌ x_times
inverse-zero = refl

-- ---- the number of entries
pub sbox-length : length sbox ≡ 256
unfolding sbox
sbox-length = refl

pub inv-sbox-length : length inv_sbox ≡ 256
unfolding inv_sbox
inv-sbox-length = refl

-- ---- the entries are the rules
pub sbox-rule : (b : ℕ) → b < 256 → get_or sbox b 0 ≡ sub_byte b
unfolding sbox sub_byte affine inverse ◌•◌ x_times
sbox-rule = agree-below (λ b. get_or sbox b 0) sub_byte 256 tt

pub inv-sbox-rule : (b : ℕ) → b < 256 → get_or inv_sbox b 0 ≡ inv_sub_byte b
unfolding inv_sbox inv_sub_byte inv_affine inverse ◌•◌ x_times
inv-sbox-rule = agree-below (λ b. get_or inv_sbox b 0) inv_sub_byte 256 tt

-- ---- each table undoes the other, at every entry
pub inv-sbox-sbox : (b : ℕ) → b < 256 → get_or inv_sbox (get_or sbox b 0) 0 ≡ b
unfolding sbox inv_sbox
inv-sbox-sbox = agree-below (λ b. get_or inv_sbox (get_or sbox b 0) 0) (λ b. b) 256 tt

pub sbox-inv-sbox : (b : ℕ) → b < 256 → get_or sbox (get_or inv_sbox b 0) 0 ≡ b
unfolding sbox inv_sbox
sbox-inv-sbox = agree-below (λ b. get_or sbox (get_or inv_sbox b 0) 0) (λ b. b) 256 tt

-- ---- every entry is a byte
sbox-byte : (b : ℕ) → b < 256 → get_or sbox b 0 < 256
unfolding sbox
sbox-byte b h = ltb→lt (get_or sbox b 0) 256 (each_below (λ k. ltb (get_or sbox k 0) 256) 256 tt b h)

inv-sbox-byte : (b : ℕ) → b < 256 → get_or inv_sbox b 0 < 256
unfolding inv_sbox
inv-sbox-byte b h = ltb→lt (get_or inv_sbox b 0) 256 (each_below (λ k. ltb (get_or inv_sbox k 0) 256) 256 tt b h)

-- ---- the same of the rules
pub sub-byte-byte : (b : ℕ) → b < 256 → sub_byte b < 256
sub-byte-byte b h = subst (λ (x : ℕ). x < 256) (sbox-rule b h) (sbox-byte b h)

pub inv-sub-byte-byte : (b : ℕ) → b < 256 → inv_sub_byte b < 256
inv-sub-byte-byte b h = subst (λ (x : ℕ). x < 256) (inv-sbox-rule b h) (inv-sbox-byte b h)

pub inv-sub-byte-sub-byte : (b : ℕ) → b < 256 → inv_sub_byte (sub_byte b) ≡ b
inv-sub-byte-sub-byte b h =
    ap inv_sub_byte (sym (sbox-rule b h)) ∙ sym (inv-sbox-rule (get_or sbox b 0) (sbox-byte b h)) ∙ inv-sbox-sbox b h

pub sub-byte-inv-sub-byte : (b : ℕ) → b < 256 → sub_byte (inv_sub_byte b) ≡ b
sub-byte-inv-sub-byte b h =
    ap sub_byte (sym (inv-sbox-rule b h)) ∙ sym (sbox-rule (get_or inv_sbox b 0) (inv-sbox-byte b h)) ∙ sbox-inv-sbox b h
