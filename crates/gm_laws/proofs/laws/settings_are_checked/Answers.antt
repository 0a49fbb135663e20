use Rattle.gm_laws.proofs.Fitting.{checked}
use Rattle.gm_laws.proofs.laws.settings_are_checked.Goals as goal

pub returns : goal.returns
returns c = checked
