use Rattle.gm_session.specs.Effects.{nothing}
use Rattle.gm_session.proofs.applier.Applier.take_long.Goals as goal

pub returns-in_default-clause-gathers : goal.returns-in_default-clause-gathers
returns-in_default-clause-gathers g c = nothing
