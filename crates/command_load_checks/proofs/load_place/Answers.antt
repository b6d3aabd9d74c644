-- By cases on the form: a template has the place that WALK found, a seed none.
-- Assumes nothing.
use mathlib.Core.Path.{ap, ◌∙◌}
use Rattle.rules.specs.Commands.{place_in, load_place}
use Rattle.command_load_checks.proofs.load_place.Goals as goal

pub returns-in-Keypair : goal.returns-in-Keypair
unfolding load_place
returns-in-Keypair c = rw c.in-Keypair.is (c.place_in-place.ensures ∙ ap place_in c.walk.ensures.0)

pub returns-in-Extended : goal.returns-in-Extended
unfolding load_place
returns-in-Extended c = rw c.in-Extended.is (c.place_in-place.ensures ∙ ap place_in c.walk.ensures.0)

pub returns-in-Seed : goal.returns-in-Seed
unfolding load_place
returns-in-Seed c = rw c.in-Seed.is
