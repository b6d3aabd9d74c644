-- Ahead of round r the words of each block are its own state after the rounds 1 to r - 1; the last round completes each cipher.
-- Assumes nothing.
use native.Mathlib.Omega.{arith}
use Rattle.aes_rules.specs.Cipher.{add_round_key, round}
use Rattle.aes_encrypt.proofs.Turns.{turn, last_turn}
use Rattle.aes_words.specs.Words.{bytes_of}
use Rattle.aes_word_pairs.proofs.encrypt_pair.Goals as goal

pub loop-r-preserved : goal.loop-r-preserved
unfolding round add_round_key
loop-r-preserved c = let l = c.loop-r in
    let g = c.args in (
      turn (bytes_of g.w.now) (bytes_of l.a) (bytes_of c.add_first_key-a.result) (bytes_of c.round_of-x.result) l.r (omega arith) l.invariant.0 c.round_of-x.ensures,
      turn (bytes_of g.v.now) (bytes_of l.b) (bytes_of c.add_first_key-b.result) (bytes_of c.round_of-y.result) l.r (omega arith) l.invariant.1 c.round_of-y.ensures,
    )

pub returns : goal.returns
unfolding add_round_key
returns c = let l = c.loop-r in
    let g = c.args in record { first_value = last_turn (bytes_of g.w.now) (bytes_of g.s) (bytes_of l.a) (bytes_of c.add_first_key-a.result) (bytes_of c.last_round-first.result) l.r (omega arith) l.invariant.0 c.add_first_key-a.ensures c.last_round-first.ensures; second_value = last_turn (bytes_of g.v.now) (bytes_of g.z) (bytes_of l.b) (bytes_of c.add_first_key-b.result) (bytes_of c.last_round-second.result) l.r (omega arith) l.invariant.1 c.add_first_key-b.ensures c.last_round-second.ensures }
