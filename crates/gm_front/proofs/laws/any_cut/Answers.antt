use Rattle.gm_front.proofs.Cutting.{any_cut}
use Rattle.gm_front.proofs.laws.any_cut.Goals as goal

pub returns : goal.returns
returns c = any_cut
