use Rattle.gm_play.proofs.OneText.{one_text}
use Rattle.gm_play.proofs.laws.one_text.Goals as goal

pub returns : goal.returns
returns c = one_text
