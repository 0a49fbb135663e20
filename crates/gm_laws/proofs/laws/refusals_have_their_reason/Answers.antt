use Rattle.gm_laws.proofs.Refusals.{refusals}
use Rattle.gm_laws.proofs.laws.refusals_have_their_reason.Goals as goal

pub returns : goal.returns
returns c = refusals
