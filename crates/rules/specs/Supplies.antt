-- The ten supplies (RULES 4). Every length is in bytes.
use Rattle.std.specs.Prelude.{ℕ, ◌*◌, Bool, true, false, ◌&&◌, ◌||◌, not, List, leb, eqb, length, take, drop, get_or}
use Rattle.rules.specs.declared.Supply.{Supply}

abbrev pub supply : ℕ → ℕ → Bool → Supply
supply k n f = record { kind = k; bytes = n; flagged = f }

-- kind 0: none is read
abbrev pub no_supply : Supply
no_supply = supply 0 0 false

-- ---- the table (RULES 4.2): kind, length, whether the first byte is a flag
abbrev pub init_supply : Supply
init_supply = supply 1 33 true

abbrev pub open_supply : Supply
open_supply = supply 2 113 true

abbrev pub mutual_supply : Supply
mutual_supply = supply 3 32 false

abbrev pub pair_first_supply : Supply
pair_first_supply = supply 4 32 false

abbrev pub pair_final_supply : Supply
pair_final_supply = supply 5 32 false

abbrev pub load_supply : Supply
load_supply = supply 6 66 true

abbrev pub derive_supply : Supply
derive_supply = supply 7 1 true

abbrev pub sign_supply : Supply
sign_supply = supply 8 129 false

abbrev pub export_supply : Supply
export_supply = supply 9 98 true

-- 4 bytes of entropy for each bit of the checksum
abbrev pub mnemonic_supply : ℕ → Supply
mnemonic_supply checksum_bits = supply 10 (4 * checksum_bits) false

-- ---- the form that refusal 3 asks for (RULES 4.1): the length, and a flag byte of 00 or 01. A supply that is not read has every form
abbrev pub flag_of : List ℕ → ℕ
flag_of s = get_or s 0 0

unfoldable pub suits : Supply → List ℕ → Bool
suits k s = eqb k.kind 0 || (eqb (length s) k.bytes && (not k.flagged || leb (flag_of s) 1))

-- the flag says yes
abbrev pub says_yes : List ℕ → Bool
says_yes s = eqb (flag_of s) 1

-- ---- what is where in a supply (RULES 4.2)
-- n bytes from the byte number `at` on, counted from 0
abbrev pub part : ℕ → ℕ → List ℕ → List ℕ
part at n s = take n (drop at s)

-- kind 1: flag, AES key 32
abbrev pub init_key : List ℕ → List ℕ
init_key s = part 1 32 s

-- kind 2: flag, enc key 32, MAC key 32, salt 32, IV 16
abbrev pub open_enc_key : List ℕ → List ℕ
open_enc_key s = part 1 32 s

abbrev pub open_mac_key : List ℕ → List ℕ
open_mac_key s = part 33 32 s

abbrev pub open_salt : List ℕ → List ℕ
open_salt s = part 65 32 s

abbrev pub open_iv : List ℕ → List ℕ
open_iv s = part 97 16 s

-- kind 3: random 32
abbrev pub mutual_random : List ℕ → List ℕ
mutual_random s = part 0 32 s

-- kind 4: challenge 32
abbrev pub pair_challenge : List ℕ → List ℕ
pair_challenge s = part 0 32 s

-- kind 5: salt 32
abbrev pub pair_salt : List ℕ → List ℕ
pair_salt s = part 0 32 s

-- kind 6: flag, public key 65
abbrev pub load_public : List ℕ → List ℕ
load_public s = part 1 65 s

-- kind 8: public key 65, r 32, s 32
abbrev pub sign_key : List ℕ → List ℕ
sign_key s = part 0 65 s

abbrev pub sign_r : List ℕ → List ℕ
sign_r s = part 65 32 s

abbrev pub sign_s : List ℕ → List ℕ
sign_s s = part 97 32 s

-- kind 9: flag, public key 65, private key 32
abbrev pub export_public : List ℕ → List ℕ
export_public s = part 1 65 s

abbrev pub export_private : List ℕ → List ℕ
export_private s = part 66 32 s

-- kind 10: entropy, 4 for each bit of the checksum
abbrev pub mnemonic_entropy : ℕ → List ℕ → List ℕ
mnemonic_entropy checksum_bits s = part 0 (4 * checksum_bits) s
