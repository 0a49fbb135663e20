use Rattle.std.proofs.Common.{◌∙◌}
use Rattle.gm_core.proofs.ListLemmas.{able_are_workers}
use Rattle.gm_core.proofs.server.lists.workers.Goals as goal

pub returns : goal.returns
returns c = c.able_count.ensures.value ∙ able_are_workers c.args.conns.now c.args.f c.able_count.ensures.closed
