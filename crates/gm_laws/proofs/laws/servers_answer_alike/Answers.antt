use Rattle.gm_laws.proofs.Answering.{alike_all}
use Rattle.gm_laws.proofs.laws.servers_answer_alike.Goals as goal

pub returns : goal.returns
returns c = alike_all
