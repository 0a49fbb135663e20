use Rattle.gm_laws.proofs.Clocks.{ends_so}
use Rattle.gm_laws.proofs.laws.workers_and_clocks_end_jobs.Goals as goal

pub returns : goal.returns
returns c = ends_so
