use Rattle.std.proofs.Common.{refl}
use Rattle.gm_front.proofs.Reading.{as_it_came}
use Rattle.gm_front.proofs.laws.packets_are_read_as_they_came.Goals as goal

pub returns : goal.returns
returns c = as_it_came
