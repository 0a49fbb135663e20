use Rattle.gm_options.proofs.Words.{read_alike}
use Rattle.gm_options.proofs.laws.words_are_read_alike.Goals as goal

pub returns : goal.returns
returns c = read_alike
