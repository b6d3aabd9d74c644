-- What steps 3 and 6 answer, as types: what they find, or why they find none.
use Rattle.std.specs.Prelude.{ℕ, Result}
use Rattle.rules.specs.declared.Instruction.{Instruction}
use Rattle.rules.specs.declared.Supply.{Supply}
use Rattle.rules.specs.declared.Unnamed.{Unnamed}

-- step 3 (RULES 5.3): the instruction, or which of its two checks fails
abbrev pub Named : Type 0
Named = Result Instruction Unnamed

-- step 6 (RULES 5.6): the supply that is read, or the status word of the first check that does not hold
abbrev pub Verdict : Type 0
Verdict = Result Supply ℕ
