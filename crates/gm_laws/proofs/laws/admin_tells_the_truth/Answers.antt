use Rattle.gm_laws.proofs.Lines.{admin}
use Rattle.gm_laws.proofs.laws.admin_tells_the_truth.Goals as goal

pub returns : goal.returns
returns c = admin
