use Rattle.gm_laws.proofs.Shut.{lines_alone_change_the_mode}
use Rattle.gm_laws.proofs.laws.lines_alone_change_the_mode.Goals as goal

pub returns : goal.returns
returns c = lines_alone_change_the_mode
