-- Four words, each with its word of the schedule.
-- Assumes nothing.
use Rattle.std.proofs.Common.{rules}
use native.Mathlib.Omega.{arith}
use Rattle.aes_word_rounds.proofs.States.{first-words}
use Rattle.aes_word_rounds.proofs.add_first_key.Goals as goal

pub returns : goal.returns
returns c = first-words c.args.s c.args.w.now 0 (search rules) c.requires (omega arith) 0 0 0 0
