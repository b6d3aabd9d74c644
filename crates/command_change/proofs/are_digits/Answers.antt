-- The test is the definition: the answers of the length and of the digits are put in their places.
-- Assumes nothing.

use Rattle.command_change.proofs.are_digits.Goals as goal

pub returns : goal.returns
returns c = cc
