use Rattle.gm_laws.proofs.Orphans.{none_orphaned}
use Rattle.gm_laws.proofs.laws.no_waiting_job_is_orphaned.Goals as goal

pub returns : goal.returns
returns c = none_orphaned
