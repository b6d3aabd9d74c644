-- Ahead of round r the words are the state after the rounds 1 to r - 1; the last round completes the cipher.
-- Assumes nothing.
use native.Mathlib.Omega.{arith}
use Rattle.aes_rules.specs.Cipher.{add_round_key, round}
use Rattle.aes_encrypt.proofs.Turns.{turn, last_turn}
use Rattle.aes_words.specs.Words.{bytes_of}
use Rattle.aes_word_encrypt.proofs.encrypt_words.Goals as goal

pub loop-r-preserved : goal.loop-r-preserved
unfolding round add_round_key
loop-r-preserved c = let l = c.loop-r in
    turn (bytes_of c.args.w.now) (bytes_of l.t) (bytes_of c.add_first_key-t.result) (bytes_of c.round_of-u.result) l.r (omega arith) l.invariant c.round_of-u.ensures

pub returns : goal.returns
unfolding add_round_key
returns c = let l = c.loop-r in
    last_turn (bytes_of c.args.w.now) (bytes_of c.args.s) (bytes_of l.t) (bytes_of c.add_first_key-t.result) (bytes_of c.last_round.result) l.r (omega arith) l.invariant c.add_first_key-t.ensures c.last_round.ensures
