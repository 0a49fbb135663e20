use Rattle.gm_laws.proofs.News.{answers_name}
use Rattle.gm_laws.proofs.laws.answers_name_what_is_new.Goals as goal

pub returns : goal.returns
returns c = answers_name
