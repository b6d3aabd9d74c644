-- What the code hands up for a sequence of fields, and the result of WALK's definition that it stands for.
use Rattle.std.specs.Prelude.{Ok}
use Rattle.template_walk.specs.Walk.{Walked, refused}
use Rattle.template_walk.specs.declared.Sequence.{Sequence}
use Rattle.template_walk.specs.declared.Sequence.TheVariants.{Fields, Faulty}

abbrev pub handed : Sequence → Walked
handed (Fields n) = Ok n
handed (Faulty f k) = refused f k
