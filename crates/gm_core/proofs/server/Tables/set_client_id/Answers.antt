use Rattle.std.proofs.Common.{refl, false}
use Rattle.gm_core.proofs.CoreLemmas.{does_set_id}
use Rattle.gm_core.proofs.server.Tables.set_client_id.Goals as goal

pub returns : goal.returns
returns c = does_set_id c.args.self.now _ false c.args.slot c.args.id.now c.set_id.result (record { config = refl; functions = refl; jobs = refl; moment = refl; mode = refl }) c.set_id.ensures.ok c.set_id.ensures.err
