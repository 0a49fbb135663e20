use Rattle.gm_laws.proofs.Rests.{enough}
use Rattle.gm_laws.proofs.laws.asking_is_enough.Goals as goal

pub returns : goal.returns
returns c = enough
