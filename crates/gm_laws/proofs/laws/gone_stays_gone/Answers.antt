use Rattle.gm_laws.proofs.JobLaws.{stay_gone}
use Rattle.gm_laws.proofs.laws.gone_stays_gone.Goals as goal

pub returns : goal.returns
returns c = stay_gone
