use Rattle.gm_laws.proofs.Words.{words}
use Rattle.gm_laws.proofs.laws.words_mean.Goals as goal

pub returns : goal.returns
returns c = words
