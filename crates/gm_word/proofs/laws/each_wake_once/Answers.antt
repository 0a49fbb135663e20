use Rattle.gm_word.proofs.Settling.{wakes_settled, entries_settled}
use Rattle.gm_word.proofs.laws.each_wake_once.Goals as goal

pub returns-clause-wakes : goal.returns-clause-wakes
returns-clause-wakes c = wakes_settled

pub returns-clause-entered : goal.returns-clause-entered
returns-clause-entered c = entries_settled
