use Rattle.gm_history.proofs.Bytes.{run_sent}
use Rattle.gm_front.proofs.laws.bytes_queued.Goals as goal

pub returns : goal.returns
returns c k limits inputs reading slot reads = run_sent k reading.steps slot
