use Rattle.gm_feeder.proofs.StreamLemmas.{one_spelling}
use Rattle.gm_feeder.proofs.laws.one_spelling.Goals as goal

pub returns : goal.returns
returns c = one_spelling
