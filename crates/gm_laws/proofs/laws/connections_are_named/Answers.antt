use Rattle.gm_laws.proofs.Lines.{named}
use Rattle.gm_laws.proofs.laws.connections_are_named.Goals as goal

pub returns : goal.returns
returns c = named
