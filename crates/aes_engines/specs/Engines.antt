-- What an engine of AES-256 promises of the block r that it gives for a key of 32 bytes and a block s of 16 bytes (RULES 7.11): both engines promise it.
use Rattle.std.specs.Prelude.{ℕ, List, ◌≡◌}
use Rattle.aes_rules.specs.Aes.{aes256}

abbrev pub Enciphered : List ℕ → List ℕ → List ℕ → Type 0
Enciphered key s r = r ≡ aes256 key s
