use Rattle.gm_laws.proofs.Passing.{all_passed}
use Rattle.gm_laws.proofs.laws.what_workers_say_is_passed_on.Goals as goal

pub returns : goal.returns
returns c = all_passed
