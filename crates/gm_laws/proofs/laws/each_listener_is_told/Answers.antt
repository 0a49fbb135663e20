use Rattle.gm_laws.proofs.Endings.{all_told}
use Rattle.gm_laws.proofs.laws.each_listener_is_told.Goals as goal

pub returns : goal.returns
returns c k steps s = all_told k s steps
