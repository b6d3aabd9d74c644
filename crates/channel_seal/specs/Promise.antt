-- What the sealing of a field (RULES 8.3) and of a response (RULES 8.5) promises, as records whose parts have names. Lengths are in bytes.
use Rattle.std.specs.Prelude.{ℕ, List, ◌++◌, ◌≡◌, length, take, drop}
use Rattle.octets.specs.Bytes.{written}
use Rattle.aes_padding.specs.Padding.{padded_bytes}
use Rattle.channel_rules.specs.declared.Session.{Session}
use Rattle.channel_rules.specs.Message.{with_iv, response_head, ciphertext, mac_of, field_mac}
use Rattle.channel_rules.specs.Terminal.{sealed_response}
use Rattle.channel_seal.specs.declared.Response.{Response}

-- n bytes of data, 16 bytes into the buffer, were sealed there under a head block: the MAC is the answer and comes first, the ciphertext
-- directly after it, and the bytes after the field are kept
pub record FieldSealed (s : Session) (head : List ℕ) (n : ℕ) (before mac after : List ℕ) : Type 0 where
  pub told : mac ≡ mac_of s head (ciphertext s (take n (drop 16 before)))
  pub left : after ≡ written (mac ++ ciphertext s (take n (drop 16 before))) before
  pub long : length (ciphertext s (take n (drop 16 before))) ≡ padded_bytes n

-- a response's data and status word were sealed from the buffer's start, with 9000 in the clear after them
pub record ResponseSealed (s : Session) (plain : List ℕ) (before : List ℕ) (r : Response) (after : List ℕ) : Type 0 where
  pub count : r.count ≡ length (sealed_response s plain)
  pub session : r.session ≡ with_iv s (field_mac s response_head plain)
  pub left : after ≡ written (sealed_response s plain) before
