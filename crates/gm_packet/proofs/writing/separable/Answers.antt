use Rattle.gm_packet.proofs.Joins.{lacks_exactly}
use Rattle.gm_packet.proofs.writing.separable.Goals as goal

pub returns-in-len1-up : goal.returns-in-len1-up
returns-in-len1-up c = lacks_exactly _ c.args.texts.now c.any_nul.result c.any_nul.ensures
