use Rattle.gm_front.proofs.OneReading.{refused_step}
use Rattle.gm_front.proofs.laws.refused_step.Goals as goal

pub returns : goal.returns
returns c = refused_step
