use Rattle.gm_laws.proofs.PutOff.{may_be_taken_later as law}
use Rattle.gm_laws.proofs.laws.may_be_taken_later.Goals as goal

pub returns : goal.returns
returns c = law
