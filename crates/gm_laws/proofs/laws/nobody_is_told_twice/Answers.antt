use Rattle.gm_laws.proofs.ToldOnce.{told_once}
use Rattle.gm_laws.proofs.laws.nobody_is_told_twice.Goals as goal

pub returns : goal.returns
returns c = told_once
