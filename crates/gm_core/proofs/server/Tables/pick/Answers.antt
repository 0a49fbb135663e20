use Rattle.gm_core.proofs.GrabLemmas.{any_heads}
use Rattle.gm_core.proofs.server.Tables.pick.Goals as goal

pub returns-else-as_gearmand-clause-first : goal.returns-else-as_gearmand-clause-first
returns-else-as_gearmand-clause-first c = any_heads c.args.self.now.functions c.pick_by_function.result c.pick_by_function.ensures.first
