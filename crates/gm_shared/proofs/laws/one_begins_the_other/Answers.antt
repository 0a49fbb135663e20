use Rattle.gm_shared.proofs.Standing.{one_begins_the_other}
use Rattle.gm_shared.proofs.laws.one_begins_the_other.Goals as goal

pub returns : goal.returns
returns c = one_begins_the_other
