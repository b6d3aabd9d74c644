-- The sealed message (RULES 8). A field is a MAC of 16 bytes and directly after it the ciphertext. Every length, Lc and Lr included, is a
-- number of bytes.
use Rattle.std.specs.Prelude.{ℕ, ◌+◌, ◌-◌, ◌%◌, Bool, true, false, ◌&&◌, List, [], ◌∷◌, ◌++◌, leb, eqb, length, take, drop, replicate}
use Rattle.std.specs.Prelude as rust
use Rattle.std.proofs.Math.Option.{Option, none, some}
use Rattle.refusals.specs.Refusals.{no_refusal, not_genuine}
use Rattle.octets.specs.Bytes.{Block, same_bytes}
use Rattle.aes_rules.specs.Aes.{aes256, inv_aes256, Key}
use Rattle.aes_cbc.specs.Mode.{cbc_encrypt, cbc_decrypt, cbc_mac}
use Rattle.aes_padding.specs.Padding.{pad, unpad}
use Rattle.channel_rules.specs.declared.Session.{Session}

-- a session as the code holds it (RULES 8.1): keys of 32 bytes and an IV of 16 bytes. Every value of the code's type is one (crate
-- `channel_types`)
pub record Keyed (s : Session) : Type 0 where
  pub enc : Key s.enc_key
  pub mac : Key s.mac_key
  pub iv : Block s.iv

-- the IV is the MAC of the latest message that was sealed or opened at this end (RULES 8.1)
abbrev pub with_iv : Session → List ℕ → Session
with_iv s mac = record { enc_key = s.enc_key; mac_key = s.mac_key; iv = mac }

-- Lc of a command and Lr of a response each count the MAC and the ciphertext (RULES 8.2). n is the ciphertext's length
abbrev pub lc : ℕ → ℕ
lc n = 16 + n

abbrev pub lr : ℕ → ℕ
lr n = 16 + n

-- the head block of a command with the header CLA INS P1 P2, and of a response, for a ciphertext of n bytes (RULES 8.2)
abbrev pub command_head : List ℕ → ℕ → List ℕ
command_head header n = header ++ (lc n ∷ replicate 11 0)

abbrev pub response_head : ℕ → List ℕ
response_head n = lr n ∷ replicate 15 0

-- the ciphertext of data, and the MAC over a head block and a ciphertext (RULES 8.3)
unfoldable pub ciphertext : Session → List ℕ → List ℕ
ciphertext s data' = cbc_encrypt (aes256 s.enc_key) s.iv (pad data')

unfoldable pub mac_of : Session → List ℕ → List ℕ → List ℕ
mac_of s head c = cbc_mac (aes256 s.mac_key) (head ++ c)

-- sealing (RULES 8.3): the field of data, under a head block that depends on the ciphertext's length
abbrev pub field_mac : Session → (ℕ → List ℕ) → List ℕ → List ℕ
field_mac s head data' = mac_of s (head (length (ciphertext s data'))) (ciphertext s data')

unfoldable pub seal_field : Session → (ℕ → List ℕ) → List ℕ → List ℕ
seal_field s head data' = field_mac s head data' ++ ciphertext s data'

-- opening (RULES 8.4), in this order: the field's length, 32 to 240 and a multiple of 16; the MAC; the padding
abbrev pub provided : Bool → Option (List ℕ) → Option (List ℕ)
provided true x = x
provided false x = none

abbrev pub field_form : ℕ → Bool
field_form n = leb 32 n && leb n 240 && eqb (n % 16) 0

abbrev pub opened : Session → List ℕ → List ℕ → Option (List ℕ)
opened s head field =
    provided (same_bytes (mac_of s head (drop 16 field)) (take 16 field))
    (unpad (cbc_decrypt (inv_aes256 s.enc_key) s.iv (drop 16 field)))

unfoldable pub open_field : Session → (ℕ → List ℕ) → List ℕ → Option (List ℕ)
open_field s head field = provided (field_form (length field)) (opened s (head (length field - 16)) field)

-- what the code answers: the opened data's length, or that the field does not open
abbrev pub opening_of : Option (List ℕ) → rust.Option ℕ
opening_of (some data') = rust.Some (length data')
opening_of none = rust.None

-- what an opening means at each end (RULES 8.4): the opened data; where there is none, the card gives the status word 6982 (RULES 5.4) and
-- UNSEAL its refusal 7 (RULES 8.7)
pub record OpeningOut : Type 0 where
  pub bytes : List ℕ
  pub word : Option ℕ
  pub refusal : ℕ

abbrev pub opened_to : List ℕ → OpeningOut
opened_to data' = record { bytes = data'; word = none; refusal = no_refusal }

abbrev pub not_opened : OpeningOut
not_opened = record { bytes = []; word = some 0x6982; refusal = not_genuine }

abbrev pub field_out : Option (List ℕ) → OpeningOut
field_out (some data') = opened_to data'
field_out none = not_opened

-- what each of the code's answers says in those terms, with the data at the start of the buffer `plain`
abbrev pub opening_out : List ℕ → rust.Option ℕ → OpeningOut
opening_out plain (rust.Some n) = opened_to (take n plain)
opening_out plain rust.None = not_opened
