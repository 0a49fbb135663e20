use Rattle.gm_laws.proofs.Abilities.{abilities_asked}
use Rattle.gm_laws.proofs.laws.abilities_are_as_asked.Goals as goal

pub returns : goal.returns
returns c = abilities_asked
