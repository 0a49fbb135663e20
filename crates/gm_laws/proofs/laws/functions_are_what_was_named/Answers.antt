use Rattle.gm_laws.proofs.Named.{functions_named}
use Rattle.gm_laws.proofs.laws.functions_are_what_was_named.Goals as goal

pub returns : goal.returns
returns c = functions_named
