use Rattle.gm_history.proofs.StepsKeep.{run_history}
use Rattle.gm_history.proofs.laws.each_note_was_allowed.Goals as goal

pub returns : goal.returns
returns c = run_history
