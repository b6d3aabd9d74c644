-- The part that is lent is the padded data, then the ciphertext; with the MAC in front it is the field.
-- Assumes nothing.
use Rattle.std.proofs.Common.{rules}
use mathlib.Core.Path.{◌≡◌, sym, ap, ◌∙◌}
use mathlib.Core.List.{List, ◌++◌}
use Prim.Native.Nat.{ℕ, ◌+◌, ◌%◌}
use lib.ListN.{length}
use Rattle.octets.specs.Bytes.{written}
use Rattle.aes_rules.specs.Aes.{aes256}
use Rattle.aes_cbc.specs.Mode.{cbc_encrypt, cbc_mac}
use Rattle.aes_padding.proofs.Laws.{padded-whole}
use Rattle.channel_rules.specs.Message.{ciphertext, mac_of}
use Rattle.channel_seal.proofs.Sealed.{lent, lent-whole, sealed}
use Rattle.channel_seal.proofs.seal_field.Goals as goal

pub cbc_encrypt_and_mac-mac-requires : goal.cbc_encrypt_and_mac-mac-requires
cbc_encrypt_and_mac-mac-requires c = let g = c.args in
    let p = c.pad_in_place-padded in
    ap (λ (m : ℕ). m % 16) (lent-whole g.buf.now g.data_bytes p.result p.ensures.value c.requires p.new.buf p.ensures.buf_after) ∙ padded-whole g.data_bytes

pub returns : goal.returns
unfolding ciphertext mac_of
returns c = let g = c.args in
    let room = c.requires in
    let B : List ℕ = g.buf.now in
    let n : ℕ = g.data_bytes in
    let p = c.pad_in_place-padded in
    let e = c.cbc_encrypt_and_mac-mac in
    let y : List ℕ = e.new.buf in
    let mac : List ℕ = e.result in
    let part = lent B n p.result p.ensures.value room p.new.buf p.ensures.buf_after in
    let text : y ≡ ciphertext g.s _ = e.ensures.buf_after ∙ ap (cbc_encrypt (aes256 g.s.enc_key) g.s.iv) part in
    record {
      told = e.ensures.value ∙ ap (λ (x : List ℕ). cbc_mac (aes256 g.s.mac_key) (g.head ++ x)) text;
      left = c.put.ensures
          ∙ sealed B n p.result p.ensures.value room p.new.buf p.ensures.buf_after y e.auto.buf mac (search rules)
          ∙ ap (λ (x : List ℕ). written (mac ++ x) B) text;
      long = sym (ap length text) ∙ e.auto.buf ∙ lent-whole B n p.result p.ensures.value room p.new.buf p.ensures.buf_after;
    }
