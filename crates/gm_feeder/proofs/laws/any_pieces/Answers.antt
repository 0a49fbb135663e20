use Rattle.gm_feeder.proofs.StreamLemmas.{runs_spell, runs_spell-only}
use Rattle.gm_feeder.proofs.laws.any_pieces.Goals as goal

pub returns : goal.returns
returns c = record { spelled = runs_spell; only = runs_spell-only }
