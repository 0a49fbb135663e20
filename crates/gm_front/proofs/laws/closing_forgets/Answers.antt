use Rattle.gm_front.proofs.Rests.{no_rest, begins_anew}
use Rattle.gm_front.proofs.laws.closing_forgets.Goals as goal

pub returns : goal.returns
returns c = record { forgets = no_rest; begins = begins_anew }
