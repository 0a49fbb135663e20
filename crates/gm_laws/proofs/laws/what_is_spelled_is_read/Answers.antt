use Rattle.gm_laws.proofs.Reading.{spelled_read}
use Rattle.gm_laws.proofs.laws.what_is_spelled_is_read.Goals as goal

pub returns : goal.returns
returns c = spelled_read
