use Rattle.gm_history.proofs.Bytes.{run_sent}
use Rattle.gm_history.proofs.laws.bytes_arrive.Goals as goal

pub returns : goal.returns
returns c k steps slot = run_sent k steps slot
