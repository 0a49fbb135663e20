use Rattle.gm_laws.proofs.Hearers.{ticks}
use Rattle.gm_laws.proofs.laws.ticks_are_taken.Goals as goal

pub returns : goal.returns
returns c = ticks
