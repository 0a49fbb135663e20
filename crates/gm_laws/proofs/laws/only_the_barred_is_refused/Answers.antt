use Rattle.gm_laws.proofs.Barred.{barred}
use Rattle.gm_laws.proofs.laws.only_the_barred_is_refused.Goals as goal

pub returns : goal.returns
returns c = barred
