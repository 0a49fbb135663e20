use Rattle.gm_laws.proofs.Created.{submissions_answered}
use Rattle.gm_laws.proofs.laws.submissions_are_answered.Goals as goal

pub returns : goal.returns
returns c = submissions_answered
