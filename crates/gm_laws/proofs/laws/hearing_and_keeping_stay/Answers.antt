use Rattle.gm_laws.proofs.Keeping.{hearing_and_keeping_stay}
use Rattle.gm_laws.proofs.laws.hearing_and_keeping_stay.Goals as goal

pub returns : goal.returns
returns c = hearing_and_keeping_stay
