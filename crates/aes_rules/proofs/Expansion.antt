-- The schedule of a key of 32 bytes has 240 bytes, and they are bytes.
-- Assumes nothing.
use mathlib.Core.Path.{◌≡◌, ◌∙◌}
use mathlib.Core.Bool.{Bool, true, false}
use mathlib.Core.List.{List}
use Prim.Native.Nat.{ℕ, zero, suc, ◌+◌, ◌*◌, ◌-◌, ◌/◌, ◌%◌, ◌≤◌, ◌<◌}
use native.Mathlib.Omega.{arith}
use lib.Dec.{eqb}
use lib.ListN.{length, take, drop, length-append, length-drop}
use lib.Seq.{length-take-le}
use Rattle.octets.specs.Bytes.{Bytes, xor_bytes}
use Rattle.octets.proofs.Lists.{bytes_take, bytes_drop, bytes-append, bytes-map, bytes-xor-bytes, length-xor-bytes}
use Rattle.aes_field.specs.Field.{sub_byte}
use Rattle.aes_field.proofs.Sbox.{sub-byte-byte}
use Rattle.aes_field.proofs.Products.{x-times-byte}
use Rattle.aes_rules.specs.Schedule.{rot_word, sub_word, x_power, rcon, choose, changed, word_at, next_word, expand, key_expansion}

-- ---- bytes
x-power-byte : (n : ℕ) → x_power n < 256
x-power-byte zero = omega arith
x-power-byte (suc n) = x-times-byte (x_power n)

rcon-bytes : (j : ℕ) → Bytes (rcon j)
unfolding rcon
rcon-bytes j = (x-power-byte (j - 1), (omega arith, (omega arith, (omega arith, tt))))

sub-word-bytes : (t : List ℕ) → Bytes t → Bytes (sub_word t)
unfolding sub_word
sub-word-bytes t h = bytes-map sub_byte sub-byte-byte t h

rot-word-bytes : (t : List ℕ) → Bytes t → Bytes (rot_word t)
unfolding rot_word
rot-word-bytes t h = bytes-append (drop 1 t) (take 1 t) (bytes_drop 1 t h) (bytes_take 1 t h)

choose-bytes : (b : Bool) (x y : List ℕ) → Bytes x → Bytes y → Bytes (choose b x y)
choose-bytes true x y h g = h
choose-bytes false x y h g = g

changed-bytes : (i : ℕ) (t : List ℕ) → Bytes t → Bytes (changed i t)
changed-bytes i t h =
    choose-bytes (eqb (i % 8) 0) (xor_bytes (sub_word (rot_word t)) (rcon (i / 8))) (choose (eqb (i % 8) 4) (sub_word t) t)
    (bytes-xor-bytes (sub_word (rot_word t)) (rcon (i / 8)) (sub-word-bytes (rot_word t) (rot-word-bytes t h)) (rcon-bytes (i / 8)))
    (choose-bytes (eqb (i % 8) 4) (sub_word t) t (sub-word-bytes t h) h)

word-bytes : (w : List ℕ) (m : ℕ) → Bytes w → Bytes (word_at w m)
word-bytes w m h = bytes_take 4 (drop m w) (bytes_drop m w h)

next-word-bytes : (w : List ℕ) → Bytes w → Bytes (next_word w)
unfolding next_word
next-word-bytes w h =
    bytes-xor-bytes (word_at w (length w - 32)) (changed (length w / 4) (word_at w (length w - 4))) (word-bytes w (length w - 32) h)
    (changed-bytes (length w / 4) (word_at w (length w - 4)) (word-bytes w (length w - 4) h))

expand-bytes : (n : ℕ) (key : List ℕ) → Bytes key → Bytes (expand n key)
expand-bytes zero key h = h
expand-bytes (suc n) key h =
    bytes-append (expand n key) (next_word (expand n key)) (expand-bytes n key h) (next-word-bytes (expand n key) (expand-bytes n key h))

pub key-expansion-bytes : (key : List ℕ) → Bytes key → Bytes (key_expansion key)
unfolding key_expansion
key-expansion-bytes key h = expand-bytes 52 key h

-- ---- lengths
length-next-word : (w : List ℕ) → 32 ≤ length w → length (next_word w) ≡ 4
unfolding next_word
length-next-word w h =
    length-xor-bytes (word_at w (length w - 32)) (changed (length w / 4) (word_at w (length w - 4)))
    ∙ length-take-le 4 (drop (length w - 32) w) (omega (arith, length-drop (length w - 32) w))

pub length-expand : (n : ℕ) (key : List ℕ) → length key ≡ 32 → length (expand n key) ≡ 32 + 4 * n
length-expand zero key h = h
length-expand (suc n) key h =
    let e : length (expand n key) ≡ 32 + 4 * n = length-expand n key h in
    omega (arith, length-append (expand n key) (next_word (expand n key)), length-next-word (expand n key) (omega arith))

pub length-key-expansion : (key : List ℕ) → length key ≡ 32 → length (key_expansion key) ≡ 240
unfolding key_expansion
length-key-expansion key h = length-expand 52 key h
