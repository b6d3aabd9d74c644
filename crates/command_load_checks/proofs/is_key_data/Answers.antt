-- By cases on the form, each with its own test.
-- Assumes nothing.

use Rattle.command_load_checks.proofs.is_key_data.Goals as goal

pub returns-in-Keypair : goal.returns-in-Keypair
returns-in-Keypair c = rw c.in-Keypair.is c.is_keypair.ensures

pub returns-in-Extended : goal.returns-in-Extended
returns-in-Extended c = rw c.in-Extended.is c.is_keypair-in-Extended.ensures

pub returns-in-Seed : goal.returns-in-Seed
returns-in-Seed c = rw c.in-Seed.is
