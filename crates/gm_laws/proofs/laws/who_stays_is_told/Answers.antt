use Rattle.gm_laws.proofs.Submitting.{who_stays}
use Rattle.gm_laws.proofs.laws.who_stays_is_told.Goals as goal

pub returns : goal.returns
returns c = who_stays
