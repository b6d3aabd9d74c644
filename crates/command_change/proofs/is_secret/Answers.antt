-- By cases on the secret, from what the tests of the data ensure.
-- Assumes nothing.

use Rattle.command_change.proofs.is_secret.Goals as goal

pub returns-in-Pin : goal.returns-in-Pin
returns-in-Pin c = rw c.in-Pin.is c.are_digits.ensures

pub returns-in-Puk : goal.returns-in-Puk
returns-in-Puk c = rw c.in-Puk.is c.are_digits-in-Puk.ensures

pub returns-in-Pairing : goal.returns-in-Pairing
returns-in-Pairing c = rw c.in-Pairing.is
