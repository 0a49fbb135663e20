use Rattle.gm_feeder.proofs.StreamLemmas.{any_cut}
use Rattle.gm_feeder.proofs.laws.any_cut.Goals as goal

pub returns : goal.returns
returns c = any_cut
