use Rattle.gm_lane_word.proofs.Keeping.{step_keeps, reached_keeps}
use Rattle.gm_lane_word.proofs.laws.word_rule.Goals as goal

pub returns-clause-step : goal.returns-clause-step
returns-clause-step c = λ word next views after. step_keeps word views next after

pub returns-clause-reached : goal.returns-clause-reached
returns-clause-reached c = reached_keeps
