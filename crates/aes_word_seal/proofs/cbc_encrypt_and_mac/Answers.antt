-- The chains under the schedules of the keys are CBC encryption and the CBC-MAC with AES-256 under the keys.
-- Assumes nothing.
use Rattle.std.proofs.Common.{rules}
use mathlib.Core.Path.{ap, ◌∙◌}
use mathlib.Core.List.{List, ◌++◌}
use Prim.Native.Nat.{ℕ}
use Rattle.aes_rules.specs.Cipher.{cipher}
use Rattle.aes_rules.specs.Aes.{aes256}
use Rattle.aes_cbc.specs.Mode.{cbc_encrypt, cbc_mac}
use Rattle.aes_word_seal.proofs.cbc_encrypt_and_mac.Goals as goal

pub seal_blocks-requires : goal.seal_blocks-requires
seal_blocks-requires c = record {
  four_tables = record {
    row0 = c.row_0-t0.ensures;
    row1 = c.row_1-t1.ensures;
    row2 = c.row_2-t2.ensures;
    row3 = c.row_3-t3.ensures;
  };
  w_len = search rules;
  v_len = search rules;
  buf_len = search rules;
}

pub returns : goal.returns
unfolding aes256
returns c = let g = c.args in
    let sealed = c.seal_blocks in record { buf_after = sealed.ensures.buf_after ∙ ap (λ (w : List ℕ). cbc_encrypt (cipher w) g.iv g.buf.now) c.key_schedule-w.ensures; value = sealed.ensures.value ∙ ap (λ (v : List ℕ). cbc_mac (cipher v) (g.head ++ sealed.new.buf)) c.key_schedule-v.ensures }
