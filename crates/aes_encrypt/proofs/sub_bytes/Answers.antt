-- SubBytes of each byte.
-- Assumes nothing.
use Rattle.std.proofs.Common.{rules, tests}
use mathlib.Core.Path.{◌∙◌}
use mathlib.Core.List.{List}
use Prim.Native.Nat.{ℕ}
use lib.ListN.{get_or}
use Rattle.octets.proofs.Made.{made_by}
use Rattle.aes_field.specs.Field.{sub_byte}
use Rattle.aes_rules.specs.Cipher.{sub_bytes}
use Rattle.aes_rules.proofs.Elements.{each-made}
use Rattle.aes_encrypt.proofs.sub_bytes.Goals as goal

pub returns : goal.returns
unfolding sub_bytes
returns c = let s : List ℕ = c.args.s in
    made_by _ (λ i. sub_byte (get_or s i 0)) _ c.from_fn.result _ c.from_fn.ensures.items (λ m r q l e. search (rules, tests))
    ∙ each-made sub_byte s (search rules)
