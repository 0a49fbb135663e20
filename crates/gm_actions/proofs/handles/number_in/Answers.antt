use Rattle.gm_actions.proofs.HandleTexts.{number_handle}
use Rattle.gm_actions.proofs.handles.number_in.Goals as goal

pub returns-in-Some-clause-value : goal.returns-in-Some-clause-value
returns-in-Some-clause-value c = number_handle c.args.config.now c.args.text.now c.in-Some.digits.now c.number_of.result c.in-Some.ensures c.number_of.ensures
