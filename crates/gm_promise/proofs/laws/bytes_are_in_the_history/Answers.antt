use Rattle.gm_slots.proofs.Given.{all_given}
use Rattle.gm_promise.proofs.laws.bytes_are_in_the_history.Goals as goal

pub returns : goal.returns
returns c = all_given
