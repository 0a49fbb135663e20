use Rattle.gm_front.proofs.Reading.{not_early, not_late}
use Rattle.gm_front.proofs.laws.limits_are_neither_early_nor_late.Goals as goal

pub returns-clause-not_early : goal.returns-clause-not_early
returns-clause-not_early c = not_early

pub returns-clause-not_late : goal.returns-clause-not_late
returns-clause-not_late c = not_late
