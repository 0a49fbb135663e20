use Rattle.std.proofs.Common.{List, ℕ, ap}
use Rattle.gm_admin.specs.Answers.{workers_text}
use Rattle.gm_notes.specs.Past.{with_output}
use Rattle.gm_notes.specs.Lines.{worker_rows}
use Rattle.gm_core.proofs.CoreLemmas.{does_as}
use Rattle.gm_core.proofs.server.Tables.list_connections.Goals as goal

pub returns : goal.returns
returns c =
    does_as c.say.result (λ past. with_output c.args.slot (workers_text (worker_rows c.args.self.now.config past.notes)) past) c.say.ensures.does
    (λ p keeps. ap (λ (text : List ℕ). with_output c.args.slot text p) (c.in_ok-text.ensures p keeps))
